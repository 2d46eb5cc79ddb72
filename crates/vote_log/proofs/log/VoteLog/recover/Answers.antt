use Rattle.std.proofs.Common.{◌∙◌}
use Rattle.vote_log.proofs.LogKeeps.{recovered_listed, recovered_ok, recovered_only}
use Rattle.vote_log.proofs.log.VoteLog.recover.Goals as goal

pub returns-in-Ok-read_steps-clause-ok : goal.returns-in-Ok-read_steps-clause-ok
returns-in-Ok-read_steps-clause-ok g c =
    recovered_ok (g.D.Disk.bytes c.args.disk) c.in-Ok.journal.payloads c.read_steps.new.journal.payloads c.in-Ok-read_steps.steps.items c.in-Ok-read_steps.ensures.same.0
    (λ bs is. c.in-Ok-read_steps.ensures.told bs (c.in-Ok.ensures.same.same ∙ is)) c.in-Ok.ensures.ok

pub returns-in-Ok-read_steps-clause-listed : goal.returns-in-Ok-read_steps-clause-listed
returns-in-Ok-read_steps-clause-listed g c =
    recovered_listed (g.D.Disk.bytes c.args.disk) c.in-Ok.journal.payloads c.read_steps.new.journal.payloads c.in-Ok-read_steps.steps.items c.in-Ok-read_steps.ensures.same.0
    (λ bs is. c.in-Ok-read_steps.ensures.told bs (c.in-Ok.ensures.same.same ∙ is))

pub returns-in-Ok-read_steps-clause-only : goal.returns-in-Ok-read_steps-clause-only
returns-in-Ok-read_steps-clause-only g c =
    recovered_only (g.D.Disk.bytes c.args.disk) c.in-Ok.journal.payloads c.read_steps.new.journal.payloads c.in-Ok-read_steps.steps.items c.in-Ok-read_steps.ensures.same.0
    (λ bs is. c.in-Ok-read_steps.ensures.told bs (c.in-Ok.ensures.same.same ∙ is)) c.in-Ok.ensures.only
