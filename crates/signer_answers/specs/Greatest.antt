-- Up to which view blocks are certified in frames of a log.
use Rattle.std.specs.Prelude.{◌≡◌, ◌⊎◌, ◌≤◌, ℕ, List, Option, Some, None}
use Rattle.std.specs.List.{Contains}
use Rattle.certificates.specs.BlockChecks.{IsChecked}
use Rattle.log_format.specs.EntryText.{Entry, IsEntryOf}

-- the entry's certificate is good and on the parent of its block, and of this view
abbrev pub CertifiesAt : List ℕ → Entry → ℕ → Type 0
CertifiesAt committee e view = IsChecked committee e.block e.certificate × (e.certificate.view ≡ view)

-- the frame spells such an entry
abbrev pub FrameCertifies : List ℕ → List ℕ → ℕ → Type 0
FrameCertifies committee frame view = (e : Entry) × IsEntryOf frame e × CertifiesAt committee e view

-- one of the frames has it
abbrev pub IsIn : (List ℕ → ℕ → Type 0) → List (List ℕ) → ℕ → Type 0
IsIn Has frames view = (frame : List ℕ) × Contains frames frame × Has frame view

-- the view is at most the greatest, if there is one
abbrev pub IsCovered : Option ℕ → ℕ → Type 0
IsCovered (Some greatest) view = view ≤ greatest
IsCovered None view = ⊥

-- the greatest of these views and of what was the greatest before
pub record IsGreatest (Is : ℕ → Type 0) (before after : Option ℕ) : Type 0 where
  pub each : (view : ℕ) → Is view → IsCovered after view
  pub keeps : (view : ℕ) → IsCovered before view → IsCovered after view
  pub one : (after ≡ before) ⊎ ((view : ℕ) × (after ≡ Some view) × Is view)
