-- What the program prints of all files.
use Rattle.std.specs.Prelude.{◌≡◌, ◌++◌, ◌&&◌, ℕ, List, [], ◌∷◌, Bool, true, Option, None, Some, String, take}
use Rattle.std.specs.declared.alloc.Global.{Global}
use Rattle.blocks.specs.Committees.{IsCommittee}
use Rattle.program_show.specs.Files.{IsPrinted}
use Rattle.program_show.specs.Words.{AskFor}

-- of a file, and then of the others; what a file holds nothing tells
pub record IsPrintedThen (Others : List ℕ → Bool → Type 0) (committee : Option (List ℕ)) (path text : List ℕ) (are_whole : Bool) : Type 0 where
  pub bytes : List ℕ
  pub first : List ℕ
  pub is_whole : Bool
  pub printed : IsPrinted committee path bytes first is_whole
  pub rest : List ℕ
  pub others_whole : Bool
  pub others : Others rest others_whole
  pub is : (text ≡ first ++ rest) × (are_whole ≡ (is_whole && others_whole))

-- the text that is printed of the files with these paths, one after the other, and whether all are whole
unfoldable pub ArePrinted : Option (List ℕ) → List (List ℕ) → List ℕ → Bool → Type 0
ArePrinted committee [] text are_whole = (text ≡ []) × (are_whole ≡ true)
ArePrinted committee (path ∷ paths) text are_whole = IsPrintedThen (ArePrinted committee paths) committee path text are_whole

-- the committee under which signatures are judged: none where no file is named, else what that file holds
abbrev pub IsGiven : Option (List ℕ) → Option (List ℕ) → Type 0
IsGiven None committee = committee ≡ None
IsGiven (Some path) committee = (bytes : List ℕ) × IsCommittee bytes × (committee ≡ Some bytes)

-- the text of all files that the words name
pub record ShowsAll (words : List (String Global)) (text : List ℕ) (are_whole : Bool) : Type 0 where
  pub files : List (List ℕ)
  pub path : Option (List ℕ)
  pub asked : AskFor words files path
  pub committee : Option (List ℕ)
  pub given : IsGiven path committee
  pub printed : ArePrinted committee files text are_whole

-- .. of so many of them, from the first on
pub record ShowsFirst (words : List (String Global)) (count : ℕ) (text : List ℕ) : Type 0 where
  pub files : List (List ℕ)
  pub path : Option (List ℕ)
  pub asked : AskFor words files path
  pub committee : Option (List ℕ)
  pub given : IsGiven path committee
  pub are_whole : Bool
  pub printed : ArePrinted committee (take count files) text are_whole
