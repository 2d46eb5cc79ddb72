use Rattle.std.proofs.Common.{take}
use Rattle.std.specs.List.{All}
use Rattle.certificates.specs.Certificates.{vote_of}
use Rattle.replica_backups.specs.Forgotten.{IsForgottenVote}
use Rattle.replica_backups.proofs.forgotten.first_forgotten_vote.Given as goal

abbrev pub invariant-loop-k : goal.invariant-loop-k
invariant-loop-k l = All (λ d. IsForgottenVote l.committee l.replica l.own (vote_of l.certificate d) → ⊥) (take l.k l.certificate.entries)
