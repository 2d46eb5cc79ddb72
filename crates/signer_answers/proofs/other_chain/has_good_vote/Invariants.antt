use Rattle.std.proofs.Common.{take}
use Rattle.std.specs.List.{All}
use Rattle.certificates.specs.GoodCertificates.{IsGoodEntry}
use Rattle.signer_answers.proofs.other_chain.has_good_vote.Given as goal

abbrev pub invariant-loop-k : goal.invariant-loop-k
invariant-loop-k l = All (λ d. IsGoodEntry l.committee l.certificate d → ⊥) (take l.k l.certificate.entries)
