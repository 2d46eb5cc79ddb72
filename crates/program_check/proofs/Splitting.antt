-- A text has one first line.
use Rattle.std.proofs.Common.{◌≡◌, ◌≢◌, ◌⊎◌, ℕ, ◌<◌, List, [], ◌∷◌, ◌++◌, length, refl, sym, ap, ◌∙◌, subst, inl, inr, arith}
use Rattle.std.specs.List.{Contains}
use Rattle.std.proofs.lemmas.List.{length-append}
use Rattle.std.proofs.lemmas.List.Elements.{Contains-append_right}
use Rattle.program_check.specs.Lines.{AreTwoLines}

-- the line feed stands in a text behind a line
ends : (first second : List ℕ) → Contains (first ++ 10 ∷ second) 10
ends first second = Contains-append_right first (10 ∷ second) 10 (0, omega arith, refl)

rest_of : (x : ℕ) (xs : List ℕ) → (Contains (x ∷ xs) 10 → ⊥) → Contains xs 10 → ⊥
rest_of x xs none c = none (Contains-append_right (x ∷ []) xs 10 c)

head_of : {x y : ℕ} {xs ys : List ℕ} → (x ∷ xs) ≡ (y ∷ ys) → (x ≡ y) × (xs ≡ ys)
head_of e = (cc, cc)

-- two ways to cut a text at its first line feed are one
pub one_cut : (a b c d : List ℕ) → (Contains a 10 → ⊥) → (Contains c 10 → ⊥) → a ++ 10 ∷ b ≡ c ++ 10 ∷ d → (a ≡ c) × (b ≡ d)
one_cut [] b [] d none_a none_c e = (refl, (head_of e).1)
one_cut [] b (y ∷ c) d none_a none_c e = absurd (none_c (0, omega arith, sym (head_of e).0))
one_cut (x ∷ a) b [] d none_a none_c e = absurd (none_a (0, omega arith, (head_of e).0))
one_cut (x ∷ a) b (y ∷ c) d none_a none_c e =
    let both = head_of e in
    let more = one_cut a b c d (rest_of x a none_a) (rest_of y c none_c) both.1 in
    let first = both.0 in
    let second = more.0 in
    (cc, more.1)

-- a text of two lines is cut behind its first
pub first_line : (text a rest first second : List ℕ) → text ≡ a ++ 10 ∷ rest → (Contains a 10 → ⊥) → AreTwoLines text first second
    → (rest ≡ second ++ 10 ∷ []) ⊎ ((rest ≡ second) × (second ≢ []))
first_line text a rest first second is none lines =
    elim lines.spelled [
      | inl e ↦ inl (one_cut a rest first (second ++ 10 ∷ []) none lines.first_ends (sym is ∙ e)).1
      | inr e ↦ inr ((one_cut a rest first second none lines.first_ends (sym is ∙ e.0)).1, e.1)
    ]

-- no line without a line feed
pub no_line : (text first second : List ℕ) → (Contains text 10 → ⊥) → AreTwoLines text first second → ⊥
no_line text first second none lines =
    elim lines.spelled [
      | inl e ↦ none (subst (λ (t : List ℕ). Contains t 10) (sym e) (ends first (second ++ 10 ∷ [])))
      | inr e ↦ none (subst (λ (t : List ℕ). Contains t 10) (sym e.0) (ends first second))
    ]

empty_from : (xs : List ℕ) → length xs ≡ 0 → xs ≡ []
empty_from [] e = refl
empty_from (x ∷ xs) e = absurd (omega arith)

-- no second line in nothing
pub nothing_behind : (text a rest first second : List ℕ) → text ≡ a ++ 10 ∷ rest → (Contains a 10 → ⊥) → length rest ≡ 0
    → AreTwoLines text first second → ⊥
nothing_behind text a rest first second is none empty lines =
    elim (first_line text a rest first second is none lines) [
      | inl e ↦
          let long = ap (λ (t : List ℕ). length t) e in
          absurd (omega (arith, length-append second (10 ∷ [])))
      | inr e ↦ e.1 (sym e.0 ∙ empty_from rest empty)
    ]

-- no third line
pub third_line : (text a rest b more first second : List ℕ) → text ≡ a ++ 10 ∷ rest → (Contains a 10 → ⊥)
    → rest ≡ b ++ 10 ∷ more → (Contains b 10 → ⊥) → 0 < length more → AreTwoLines text first second → ⊥
third_line text a rest b more first second is none is_rest none_b some lines =
    elim (first_line text a rest first second is none lines) [
      | inl e ↦
          let last = ap (λ (t : List ℕ). length t) (one_cut b more second [] none_b lines.second_ends (sym is_rest ∙ e)).1 in
          absurd (omega arith)
      | inr e ↦ lines.second_ends (subst (λ (t : List ℕ). Contains t 10) (sym is_rest ∙ e.0) (ends b more))
    ]

-- a text has one pair of lines
pub one_pair : (text a b c d : List ℕ) → AreTwoLines text a b → AreTwoLines text c d → (a ≡ c) × (b ≡ d)
one_pair text a b c d one other =
    elim one.spelled [
      | inl e ↦ elim other.spelled [
        | inl f ↦
            let cut = one_cut a (b ++ 10 ∷ []) c (d ++ 10 ∷ []) one.first_ends other.first_ends (sym e ∙ f) in
            (cut.0, (one_cut b [] d [] one.second_ends other.second_ends cut.1).0)
        | inr f ↦
            let cut = one_cut a (b ++ 10 ∷ []) c d one.first_ends other.first_ends (sym e ∙ f.0) in
            absurd (other.second_ends (subst (λ (t : List ℕ). Contains t 10) cut.1 (ends b [])))
      ]
      | inr e ↦ elim other.spelled [
        | inl f ↦
            let cut = one_cut a b c (d ++ 10 ∷ []) one.first_ends other.first_ends (sym e.0 ∙ f) in
            absurd (one.second_ends (subst (λ (t : List ℕ). Contains t 10) (sym cut.1) (ends d [])))
        | inr f ↦ one_cut a b c d one.first_ends other.first_ends (sym e.0 ∙ f.0)
      ]
    ]
