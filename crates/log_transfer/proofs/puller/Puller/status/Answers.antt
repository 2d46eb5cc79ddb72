use Rattle.std.proofs.Common.{Option, false, subst}
use Rattle.std.specs.Prelude.{MatchOption}
use Rattle.log_format.specs.declared.status.Status.{Status}
use Rattle.log_transfer.specs.Pulled.{IsDecided, IsUndecided}
use Rattle.log_transfer.proofs.Feeding.{decided_reads}
use Rattle.log_transfer.proofs.puller.Puller.status.Goals as goal

pub returns-in-Some-clause-reading : goal.returns-in-Some-clause-reading
returns-in-Some-clause-reading c =
    let p = c.self.inside in
    rw (← c.self.view_is) (λ stream w.
    decided_reads p.held stream false p.frames.items c.in-Some.status
    (subst (λ (e : Option Status). MatchOption e (IsUndecided p.held stream p.begun p.frames.items p.rest.items) (IsDecided p.held stream p.frames.items)) c.in-Some.is w))
