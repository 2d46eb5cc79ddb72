-- One frame more, from the last to the first.
use Rattle.std.proofs.Common.{◌≡◌, ◌∙◌, ℕ, zero, suc, List, [], ◌∷◌, Option, get_or, inl, inr, refl, sym, subst, arith, ◌<◌}
use Rattle.std.specs.List.{Contains}
use Rattle.std.proofs.lemmas.List.Elements.{Contains-append_right, Contains-append_left, Contains-append_cases}
use Rattle.signer_answers.specs.Greatest.{IsGreatest, IsIn}

pub only : (a b : List ℕ) → Contains (a ∷ []) b → a ≡ b
only a b c = go c.0 c.1 c.2
  where
    go : (k : ℕ) → k < 1 → get_or (a ∷ []) k b ≡ b → a ≡ b
    go zero l e = e
    go (suc k) l e = absurd (omega arith)

pub greatest_of_none : (Has : List ℕ → ℕ → Type 0) (before : Option ℕ) → IsGreatest (IsIn Has []) before before
greatest_of_none Has before = record {
  each = λ v w. let l = w.1.1 in absurd (omega arith);
  keeps = λ v w. w;
  one = inl refl;
}

pub greatest_with : (Has : List ℕ → ℕ → Type 0) (frame : List ℕ) (rest : List (List ℕ)) (before greatest after : Option ℕ)
    → IsGreatest (IsIn Has rest) before greatest → IsGreatest (Has frame) greatest after → IsGreatest (IsIn Has (frame ∷ rest)) before after
greatest_with Has frame rest before greatest after old new = record {
  each = λ v w. elim (Contains-append_cases (frame ∷ []) rest w.0 w.1) [
    | inl i ↦ new.each v (subst (λ (f : List ℕ). Has f v) (sym (only frame w.0 i)) w.2)
    | inr i ↦ new.keeps v (old.each v (w.0, i, w.2))
  ];
  keeps = λ v w. new.keeps v (old.keeps v w);
  one = elim new.one [
    | inl same ↦ elim old.one [
      | inl was ↦ inl (same ∙ was)
      | inr w ↦ inr (w.0, same ∙ w.1, (w.2.0, Contains-append_right (frame ∷ []) rest w.2.0 w.2.1, w.2.2))
    ]
    | inr w ↦ inr (w.0, w.1, (frame, Contains-append_left (frame ∷ []) rest frame (0, omega arith, refl), w.2))
  ];
}
