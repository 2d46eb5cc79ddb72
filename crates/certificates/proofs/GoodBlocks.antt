-- A certificate that passes each test of a block is good, and a good one passes them.
use Rattle.std.proofs.Common.{◌≡◌, ◌<◌, ◌≤◌, ◌+◌, ℕ, true, List, [], ◌∷◌, nat_lt, subst, refl, sym, suc, ap, ◌∙◌, inl, inr, arith}
use Rattle.std.specs.List.{All, AllPairs, sum_by}
use Rattle.std.proofs.lemmas.Bool.Decides.{nat_tests}
use Rattle.std.proofs.lemmas.List.Sums.{sum_by-cons}
use Rattle.blocks.specs.Committees.{n_of, weight_at}
use Rattle.blocks.specs.Weights.{quorum_of}
use Rattle.certificates.specs.declared.certificate.Endorsement.{Endorsement}
use Rattle.certificates.specs.Certificates.{Certificate, IsBefore}
use Rattle.certificates.specs.GoodCertificates.{IsGoodCertificate, IsGoodEntry}
use Rattle.certificates.specs.BlockChecks.{HasCount, AreInCommittee, HaveKnownKeys, IsSignedEntry, counted}

-- ---- weights of entries whose replicas are known

is_below : (r n : ℕ) → r < n → nat_lt r n ≡ true
is_below r n below = grind (arith, nat_tests)

counted_known : (committee : List ℕ) (e : Endorsement) → e.replica < n_of committee → counted committee e ≡ weight_at committee e.replica
counted_known committee e below = rw (is_below e.replica (n_of committee) below) refl

same_weight : (committee : List ℕ) (es : List Endorsement) → All (λ e. e.replica < n_of committee) es
    → sum_by (counted committee) es ≡ sum_by (λ e. weight_at committee e.replica) es
same_weight committee [] known = refl
same_weight committee (e ∷ es) known =
    let first = counted_known committee e (known 0 e (omega arith)) in
    let rest = same_weight committee es (λ k d below. known (suc k) d (omega arith)) in
    sum_by-cons (counted committee) e es ∙ ap (λ (w : ℕ). w + sum_by (counted committee) es) first
    ∙ ap (λ (w : ℕ). weight_at committee e.replica + w) rest ∙ sym (sum_by-cons (λ o. weight_at committee o.replica) e es)

-- ---- both ways

pub good_from : (committee : List ℕ) (c : Certificate) → HasCount committee c → AreInCommittee committee c → HaveKnownKeys committee c
    → All (IsSignedEntry committee c) c.entries → AllPairs IsBefore c.entries → IsGoodCertificate committee c
good_from committee c count known keys signed rising =
    elim count [
      | inl between ↦ inl (record {
        least = subst (λ (w : ℕ). quorum_of committee ≤ w) (same_weight committee c.entries known) between.least;
        most = between.most;
        rising = rising;
        good = λ k d below. record { known = known k d below; key = keys k d below; signed = signed k d below };
      })
      | inr genesis ↦ inr genesis
    ]

good_entries : (committee : List ℕ) (c : Certificate) → IsGoodCertificate committee c → All (IsGoodEntry committee c) c.entries
good_entries committee c (inl quorum) = quorum.good
good_entries committee c (inr genesis) = λ k d below. absurd (omega (arith, genesis.none))

known_from : (committee : List ℕ) (c : Certificate) → IsGoodCertificate committee c → AreInCommittee committee c
known_from committee c good k d below = (good_entries committee c good k d below).known

-- and has as many entries as it must
pub count_from : (committee : List ℕ) (c : Certificate) → IsGoodCertificate committee c → HasCount committee c
count_from committee c (inl quorum) = inl (record {
  least = subst (λ (w : ℕ). quorum_of committee ≤ w) (sym (same_weight committee c.entries (known_from committee c (inl quorum)))) quorum.least;
  most = quorum.most;
})
count_from committee c (inr genesis) = inr genesis
