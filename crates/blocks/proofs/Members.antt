-- Membership by recursion on the list, for inductions, beside std's by index.
use Rattle.std.proofs.Common.{◌≡◌, ◌⊎◌, ℕ, zero, suc, ◌<◌, List, [], ◌∷◌, ◌++◌, length, get_or, refl, subst, inl, inr, arith}
use Rattle.std.specs.List.{Contains}
use Rattle.std.proofs.lemmas.List.Elements.{Contains-append_right}

-- x is an element of the list
abbrev pub Has : {X : Type 0} → List X → X → Type 0
Has [] x = ⊥
Has (y ∷ ys) x = (y ≡ x) ⊎ Has ys x

pub Has-append_right : {X : Type 0} (xs ys : List X) (x : X) → Has ys x → Has (xs ++ ys) x
Has-append_right [] ys x h = h
Has-append_right (z ∷ xs) ys x h = inr (Has-append_right xs ys x h)

pub Contains-from_Has : {X : Type 0} (xs : List X) (x : X) → Has xs x → Contains xs x
Contains-from_Has [] x h = absurd h
Contains-from_Has (y ∷ ys) x h = elim h [ inl e ↦ (0, omega arith, e) | inr m ↦ Contains-append_right (y ∷ []) ys x (Contains-from_Has ys x m) ]

Has-get_or : {X : Type 0} (xs : List X) (k : ℕ) (d : X) → k < length xs → Has xs (get_or xs k d)
Has-get_or [] k d l = absurd (omega arith)
Has-get_or (y ∷ ys) zero d l = inl refl
Has-get_or (y ∷ ys) (suc k) d l = inr (Has-get_or ys k d (omega arith))

pub Has-from_Contains : {X : Type 0} (xs : List X) (x : X) → Contains xs x → Has xs x
Has-from_Contains {X} xs x c = subst (λ (y : X). Has xs y) c.2 (Has-get_or xs c.0 x c.1)

-- the first element, the rest
pub Contains-first : {X : Type 0} (x : X) (xs : List X) → Contains (x ∷ xs) x
Contains-first x xs = (0, omega arith, refl)

pub Contains-later : {X : Type 0} (y : X) (xs : List X) (x : X) → Contains xs x → Contains (y ∷ xs) x
Contains-later y xs x c = Contains-append_right (y ∷ []) xs x c
