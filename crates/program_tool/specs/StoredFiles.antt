-- Files that are stored whole, each under its path.
use Rattle.std.specs.Prelude.{◌≡◌, ◌++◌, ℕ, List, IfSome, Option, Some}

pub record StoredFile : Type 0 where
  pub path : List ℕ
  pub bytes : List ℕ

abbrev pub file_at : List ℕ → List ℕ → StoredFile
file_at path bytes = record { path = path; bytes = bytes }

-- the store was given these files after those before, if it tells what it was given
abbrev pub Stored : Option (List StoredFile) → Option (List StoredFile) → List StoredFile → Type 0
Stored before after files = IfSome before (λ had. after ≡ Some (had ++ files))
