use Rattle.handover_proof.proofs.proof.agree.Goals as goal

pub returns-in-None : goal.returns-in-None
returns-in-None c e of is = c.in-None.ensures e of.evidence of.certified of.proved
