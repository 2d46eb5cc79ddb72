-- A text of two lines.
use Rattle.std.specs.Prelude.{◌≡◌, ◌≢◌, ◌⊎◌, ◌++◌, ◌∷◌, [], ℕ, List}
use Rattle.std.specs.List.{Contains}

-- first and second stand in lines of their own; a last line that is not empty may lack its line feed
pub record AreTwoLines (text first second : List ℕ) : Type 0 where
  pub spelled : (text ≡ first ++ 10 ∷ (second ++ 10 ∷ [])) ⊎ ((text ≡ first ++ 10 ∷ second) × (second ≢ []))
  pub first_ends : Contains first 10 → ⊥
  pub second_ends : Contains second 10 → ⊥
