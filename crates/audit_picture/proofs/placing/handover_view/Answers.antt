use Rattle.audit_picture.proofs.placing.handover_view.Goals as goal

pub returns-in-None : goal.returns-in-None
returns-in-None c = λ e is _ agree. c.handover_in.ensures.none e is agree c.in-None.is
