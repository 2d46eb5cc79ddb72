use Rattle.vote_desk.proofs.desk.Desk.left.Goals as goal

pub returns-clause-kept : goal.returns-clause-kept
returns-clause-kept g c = record { desk = _; is_desk = record { keeps = c.core-core.ensures.keeps; stay = c.core-core.ensures.stay }; is = c.left.ensures.value }
