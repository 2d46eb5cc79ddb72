use Rattle.std.proofs.Common.{◌≡◌, ◌<◌, ℕ, get_or, length}
use Rattle.certificates.specs.Certificates.{nth_endorsement, vote_of}
use Rattle.certificates.specs.declared.vote.SignedVote.{SignedVote}
use Rattle.audit_evidence.proofs.certificate_votes.CertificateVotes.of.Given as goal

abbrev pub invariant-loop-k : goal.invariant-loop-k
invariant-loop-k g l = (length l.votes.items ≡ l.k) × ((i : ℕ) (d : SignedVote) → i < l.k → get_or l.votes.items i d ≡ vote_of l.certificate (nth_endorsement l.certificate i))
