use Rattle.handover_proof.proofs.making.make_light_proof.Goals as goal

pub returns-in-None-clause-none : goal.returns-in-None-clause-none
returns-in-None-clause-none c _ agree = c.in_ok-block.ensures.none agree c.in-None.is
