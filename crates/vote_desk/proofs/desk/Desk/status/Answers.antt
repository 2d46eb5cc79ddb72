use Rattle.vote_desk.proofs.desk.Desk.status.Goals as goal

pub returns : goal.returns
returns g c = record { desk = _; is_desk = record { keeps = c.core-core.ensures.keeps; stay = c.core-core.ensures.stay }; is = c.status.ensures }
