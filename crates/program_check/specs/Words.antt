-- What the words of the command line name.
use Rattle.std.specs.Prelude.{◌≡◌, ◌≢◌, ℕ, List, [], ◌∷◌, map, String, string_bytes}
use Rattle.std.specs.declared.alloc.Global.{Global}

-- two files, the committee's and the verdict's, by paths that are not empty
pub record AreFiles (words : List (String Global)) (committee verdict : List ℕ) : Type 0 where
  pub two : map (λ w. string_bytes w) words ≡ committee ∷ verdict ∷ []
  pub some_committee : committee ≢ []
  pub some_verdict : verdict ≢ []

-- neither two files nor, with no words, standard input
pub record IsUsage (words : List (String Global)) : Type 0 where
  pub some : words ≢ []
  pub not_two : (committee verdict : List ℕ) → AreFiles words committee verdict → ⊥
