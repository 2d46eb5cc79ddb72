-- Whether replicas rise, as the tests see it and as it is meant.
use Rattle.std.proofs.Common.{◌≡◌, ℕ, ◌+◌, ◌<◌, ◌≤◌, suc, Bool, true, false, ◌&&◌, List, [], ◌∷◌, refl, arith, nat_le, drop, ap, ◌∙◌}
use Rattle.std.specs.List.{All, AllPairs}
use Rattle.std.proofs.lemmas.Bool.Decides.{nat_tests}
use Rattle.std.proofs.lemmas.List.Elements.{All-nil, All-cons}
use Rattle.std.proofs.lemmas.List.Kept.{AllPairs-cons}
use Rattle.certificates.specs.declared.certificate.Endorsement.{Endorsement}
use Rattle.certificates.specs.Certificates.{IsBefore}
use Rattle.certificates.specs.CertificateReading.{rises_from, is_rising}

-- each replica is at least `least`
abbrev AreFrom : ℕ → List Endorsement → Type 0
AreFrom least es = All (λ e. least ≤ e.replica) es

both_true : (a b : Bool) → (a && b) ≡ true → (a ≡ true) × (b ≡ true)
both_true true b e = (refl, e)
both_true false b e = absurd cc

le_from : (m n : ℕ) → nat_le m n ≡ true → m ≤ n
le_from m n e = grind (arith, nat_tests)

le_true : (m n : ℕ) → m ≤ n → nat_le m n ≡ true
le_true m n h = grind (arith, nat_tests)

le_false : (m n : ℕ) → n < m → nat_le m n ≡ false
le_false m n h = grind (arith, nat_tests)

rises_means : (least : ℕ) (es : List Endorsement) → rises_from least es ≡ true → AreFrom least es × AllPairs IsBefore es
rises_means least [] e = (All-nil (λ e. least ≤ e.replica), λ i j d before below. absurd (omega arith))
rises_means least (e ∷ es) t =
    let parts = both_true (nat_le least e.replica) (rises_from (e.replica + 1) es) t in
    let here : least ≤ e.replica = le_from least e.replica parts.0 in
    let rest = rises_means (e.replica + 1) es parts.1 in (
      λ k d below. All-cons (λ (x : Endorsement). least ≤ x.replica) e es here (λ j d b. omega (arith, rest.0 j d b)) k d below,
      AllPairs-cons IsBefore e es (λ j d b. omega (arith, rest.0 j d b)) rest.1,
    )

rises_where : (least : ℕ) (es : List Endorsement) → AreFrom least es → AllPairs IsBefore es → rises_from least es ≡ true
rises_where least [] from rising = refl
rises_where least (e ∷ es) from rising =
    let here : nat_le least e.replica ≡ true = le_true least e.replica (from 0 e (omega arith)) in
    let rest : rises_from (e.replica + 1) es ≡ true =
    rises_where (e.replica + 1) es (λ k d below. omega (arith, rising 0 (suc k) d (omega arith) (omega arith))) (λ i j d before below. rising (suc i) (suc j) d (omega arith) (omega arith)) in
    rw (here, rest) refl

-- one more step of the test
pub rises_on : (least : ℕ) (es : List Endorsement) (k : ℕ) (e : Endorsement) → drop k es ≡ e ∷ drop (k + 1) es → least ≤ e.replica
    → rises_from least (drop k es) ≡ rises_from (e.replica + 1) (drop (k + 1) es)
rises_on least es k e is le = ap (rises_from least) is ∙ ap (λ (b : Bool). b && rises_from (e.replica + 1) (drop (k + 1) es)) (le_true least e.replica le)

-- it fails
pub rises_no_more : (least : ℕ) (es : List Endorsement) (k : ℕ) (e : Endorsement) → drop k es ≡ e ∷ drop (k + 1) es → e.replica < least
    → rises_from least (drop k es) ≡ false
rises_no_more least es k e is lt = ap (rises_from least) is ∙ ap (λ (b : Bool). b && rises_from (e.replica + 1) (drop (k + 1) es)) (le_false least e.replica lt)

pub rising_means : (es : List Endorsement) → is_rising es ≡ true → AllPairs IsBefore es
rising_means es e = (rises_means 0 es e).1

pub rising_where : (es : List Endorsement) → AllPairs IsBefore es → is_rising es ≡ true
rising_where es rising = rises_where 0 es (λ k d below. omega arith) rising
