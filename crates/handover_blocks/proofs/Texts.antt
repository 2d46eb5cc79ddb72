-- Texts that are one, or two.
use Rattle.std.proofs.Common.{◌≡◌, ◌≢◌, ◌⊎◌, ℕ, List, true, false, refl, inl, inr}
use Rattle.std.specs.Str.{bytes_eq}
use Rattle.std.proofs.lemmas.Slice.Eq.{bytes_eq-Decides}
use Rattle.std.proofs.lemmas.Bool.{false≢true}

-- two texts are one, or not
pub one_or_two : (x y : List ℕ) → (x ≡ y) ⊎ (x ≢ y)
one_or_two x y =
    let d = bytes_eq-Decides x y in
    elim (bytes_eq x y) as (λ b. ((b ≡ true → x ≡ y) × (x ≡ y → b ≡ true)) → (x ≡ y) ⊎ (x ≢ y)) [
      | true ↦ λ k. inl (k.0 refl)
      | false ↦ λ k. inr (λ e. false≢true (k.1 e))
    ] (d.0, d.1)
