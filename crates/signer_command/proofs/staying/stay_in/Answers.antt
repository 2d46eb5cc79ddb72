use Rattle.signer_command.proofs.staying.stay_in.Goals as goal

pub returns-clause-backed : goal.returns-clause-backed
returns-clause-backed g c = c.in-Ok.ensures.backed
