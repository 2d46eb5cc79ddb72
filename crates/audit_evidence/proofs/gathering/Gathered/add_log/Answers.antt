use Rattle.std.proofs.Common.{subst}
use Rattle.audit_evidence.specs.Gathering.{Grows}
use Rattle.audit_evidence.specs.Logs.{ReceivedLog, LogHasHeader, LogNamesVote}
use Rattle.audit_evidence.proofs.gathering.Gathered.add_log.Goals as goal

pub returns-clause-ok : goal.returns-clause-ok
returns-clause-ok g c =
    subst (λ (l : ReceivedLog). Grows c.args.self.now c.add_frames.new.self (LogHasHeader l) (LogNamesVote l)) c.log.view_is c.in_ok-entries.ensures.ok
