-- What passes each test proves a handover.
use Rattle.std.proofs.Common.{ℕ, zero, suc, ◌+◌, ◌-◌, ◌<◌, ◌≤◌, List, [], ◌∷◌, length, arith}
use Rattle.std.specs.List.{All, AllPairs}
use Rattle.blocks.specs.Committees.{n_of}
use Rattle.certificates.specs.declared.certificate.Endorsement.{Endorsement}
use Rattle.certificates.specs.Certificates.{IsBefore, IsCertificate}
use Rattle.handover_light.specs.LightProofs.{LightProof, IsLightProof}
use Rattle.handover_light.specs.Proving.{AllBelow, ProvesHandover, nth_certificate}
use Rattle.handover_light.specs.LightProofRefusals.{HasForm, HasGoodVotes}

is_nth_certificate : (p : LightProof) (c : ℕ) → IsLightProof p → IsCertificate (nth_certificate p c)
is_nth_certificate p zero is = is.committed
is_nth_certificate p (suc zero) is = is.second
is_nth_certificate p (suc (suc n)) is = is.third

-- rising replicas of a committee are no more than it has
few_enough : (n least : ℕ) (es : List Endorsement) → All (λ e. e.replica < n) es → All (λ e. least ≤ e.replica) es → AllPairs IsBefore es → length es ≤ n - least
few_enough n least [] known from rising = omega arith
few_enough n least (e ∷ es) known from rising =
    let here = known 0 e (omega arith) in
    let low = from 0 e (omega arith) in
    let rest : length es ≤ n - (e.replica + 1) =
    few_enough n (e.replica + 1) es (λ k d below. known (suc k) d (omega arith))
    (λ k d below. omega (arith, rising 0 (suc k) d (omega arith) (omega arith))) (λ i j d before below. rising (suc i) (suc j) d (omega arith) (omega arith)) in
    omega arith

pub proves : (committee : List ℕ) (p : LightProof) → IsLightProof p → HasForm committee p → AllBelow 3 (HasGoodVotes committee p) → ProvesHandover committee p
proves committee p is form votes = record {
  chain = form.chain;
  certified = λ c below.
      let rising = (is_nth_certificate p c is).rising in
      let few = few_enough (n_of committee) 0 (nth_certificate p c).entries (form.known c below) (λ k d inside. omega arith) rising in
      record {
        on = form.on c below;
        quorum = record { least = form.enough c below; most = omega arith; rising = rising; good = votes c below };
      };
}
