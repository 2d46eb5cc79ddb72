-- Lists that are shown, one more.
use Rattle.std.proofs.Common.{◌≡◌, ◌∙◌, ◌+◌, ◌<◌, ◌++◌, ◌∷◌, ◌^◌, ℕ, List, [], length, get_or, min, take, refl, sym, ap, subst, arith}
use Rattle.std.specs.Prelude.{◌-◌, map, sum_by}
use Rattle.std.proofs.lemmas.List.{length-map, length-take-le, map-append, take_more}
use Rattle.std.proofs.lemmas.List.Sums.{sum_by_push}
use Rattle.watch_report.specs.declared.snapshot.Culprit.{Culprit}
use Rattle.watch_desk.specs.Shown.{CulpritFacts, capped, culprit_facts, verdict_facts, verdict_of}
use Rattle.watch_desk.specs.Taking.{AllAt}
use Rattle.watch_desk.proofs.Sourcing.{each_and_one_more}

pub map_more : {A B C : Type 0} (f : A → C) (g : B → C) (done : List A) (xs : List B) (i : ℕ) (x : A) (y : B) → i < length xs → y ≡ get_or xs i y
    → map f done ≡ map g (take i xs) → f x ≡ g y → map f (done ++ x ∷ []) ≡ map g (take (i + 1) xs)
map_more {A} {B} {C} f g done xs i x y there is so_far here =
    map-append f done (x ∷ []) ∙ ap (λ (cs : List C). cs ++ f x ∷ []) so_far ∙ ap (λ (c : C). map g (take i xs) ++ c ∷ []) here
    ∙ sym (ap (map g) (take_more xs i y there ∙ ap (λ (z : B). take i xs ++ z ∷ []) (sym is)) ∙ map-append g (take i xs) (y ∷ []))

-- .. and each at its place
pub shown_more : {A B C : Type 0} (f : A → C) (g : B → C) (Has : ℕ → A → Type 0) (done : List A) (xs : List B) (i : ℕ) (x : A) (y : B) → i < length xs → y ≡ get_or xs i y
    → (map f done ≡ map g (take i xs)) × AllAt Has done → f x ≡ g y → Has i x → (map f (done ++ x ∷ []) ≡ map g (take (i + 1) xs)) × AllAt Has (done ++ x ∷ [])
shown_more f g Has done xs i x y there is so_far here has =
    let count : length done ≡ i = sym (length-map done f) ∙ ap length so_far.0 ∙ length-map (take i xs) g ∙ length-take-le i xs (omega (arith, there)) in
    (map_more f g done xs i x y there is so_far.0 here, each_and_one_more Has done x so_far.1 (subst (λ k. Has k x) (sym count) has))

-- ---- the verdicts that are shown are those that are known

facts_told : {A : Type 0} (f : A → CulpritFacts) (xs : List A) → map (λ k. k.verdict) (map f xs) ≡ map (λ x. (f x).verdict) xs
facts_told f [] = refl
facts_told f (x ∷ xs) = ap (λ (rest : List (List ℕ)). (f x).verdict ∷ rest) (facts_told f xs)

map_same : (vs : List (List ℕ)) → map (λ v. v) vs ≡ vs
map_same [] = refl
map_same (v ∷ vs) = ap (λ (rest : List (List ℕ)). v ∷ rest) (map_same vs)

pub shown_are_known : (committee : List ℕ) (cs : List Culprit) (vs : List (List ℕ)) → map culprit_facts cs ≡ map (verdict_facts committee) vs → map verdict_of cs ≡ vs
shown_are_known committee cs vs is =
    sym (facts_told culprit_facts cs) ∙ ap (map (λ (k : CulpritFacts). k.verdict)) is ∙ facts_told (verdict_facts committee) vs ∙ map_same vs

-- ---- numbers that rise, one more

capped_twice : (a b : ℕ) → min (min a (2 ^ 64 - 1) + b) (2 ^ 64 - 1) ≡ min (a + b) (2 ^ 64 - 1)
capped_twice a b = omega arith

pub capped_more : {X : Type 0} (f : X → ℕ) (xs : List X) (i : ℕ) (x : X) (n m : ℕ) → i < length xs → x ≡ get_or xs i x → n ≡ capped (sum_by f (take i xs)) → m ≡ f x
    → min (n + m) (2 ^ 64 - 1) ≡ capped (sum_by f (take (i + 1) xs))
capped_more {X} f xs i x n m there is so_far here =
    let all : sum_by f (take (i + 1) xs) ≡ sum_by f (take i xs) + f x = ap (sum_by f) (take_more xs i x there ∙ ap (λ (z : X). take i xs ++ z ∷ []) (sym is)) ∙ sum_by_push f (take i xs) x in
    ap (λ k. min (k + m) (2 ^ 64 - 1)) so_far ∙ ap (λ k. min (capped (sum_by f (take i xs)) + k) (2 ^ 64 - 1)) here ∙ capped_twice (sum_by f (take i xs)) (f x) ∙ ap capped (sym all)
