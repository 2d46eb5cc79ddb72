use Rattle.certificates.specs.Certificates.{nth_endorsement}
use Rattle.certificates.specs.GoodCertificates.{IsGoodEntry}
use Rattle.handover_light.specs.Proving.{AllBelow}
use Rattle.handover_light.proofs.judging.bad_vote.Given as goal

abbrev pub invariant-loop-k : goal.invariant-loop-k
invariant-loop-k l = AllBelow l.k (λ j. IsGoodEntry l.committee l.certificate (nth_endorsement l.certificate j))
