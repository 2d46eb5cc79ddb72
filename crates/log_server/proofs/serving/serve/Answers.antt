use Rattle.log_server.proofs.serving.serve.Goals as goal

pub returns-clause-cause : goal.returns-clause-cause
returns-clause-cause g c = c.send.ensures.cause _ _ c.in_ok-request.ensures.cause
