use Rattle.handover_search.proofs.block.handover_of.Goals as goal

pub returns-clause-none : goal.returns-clause-none
returns-clause-none c = c.handover_in.ensures.none c.args.evidence.now c.in_ok-searched.ensures
