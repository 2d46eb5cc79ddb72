-- Why the program gives up, and what it leaves then.
use Rattle.std.specs.Prelude.{◌≡◌, ◌≢◌, ◌⊎◌, ℕ, List, Bool, Option, Some, Err, String, take, ⊤}
use Rattle.std.specs.List.{Contains}
use Rattle.std.specs.declared.alloc.Global.{Global}
use Rattle.base_streams.specs.Streams.{Wrote, WrotePart}
use Rattle.blocks.specs.CommitteeReading.{committee_in}
use Rattle.blocks.specs.declared.committee.CommitteeRefusal.{CommitteeRefusal}
use Rattle.program_parts.specs.Writes.{CountsOutput}
use Rattle.program_parts.specs.declared.no_fault.NoFault.{NoFault}
use Rattle.program_parts.specs.declared.program_fault.ProgramFault.{ProgramFault}
use Rattle.program_parts.specs.declared.program_fault.ProgramFault.TheVariants.{Usage, Memory, File, Committee, Output, Own}
use Rattle.program_show.specs.Showing.{ArePrinted, ShowsFirst}
use Rattle.program_show.specs.Words.{AskFor, IsUsage}

-- ---- over files

-- why not all of these files are shown
abbrev pub IsFilesFault : List (List ℕ) → ProgramFault NoFault → Type 0
IsFilesFault files Usage = ⊥
IsFilesFault files Memory = ⊤
IsFilesFault files (File path) = Contains files path.now
IsFilesFault files (Committee r) = ⊥
IsFilesFault files Output = ⊤
IsFilesFault files (Own fault) = ⊥

-- the text of the first files was written, of the last a first part where a write failed
pub record IsStopped (committee : Option (List ℕ)) (files : List (List ℕ)) (fault : ProgramFault NoFault) (before after : Option (List ℕ)) : Type 0 where
  pub cause : IsFilesFault files fault
  pub count : ℕ
  pub text : List ℕ
  pub are_whole : Bool
  pub printed : ArePrinted committee (take count files) text are_whole
  pub wrote : fault ≢ Output → Wrote before after text
  pub cut_short : fault ≡ Output → WrotePart before after text

-- ---- over words

-- the words name this file as the committee's, or among those that are shown
abbrev pub NameFile : List (String Global) → List ℕ → Type 0
NameFile words path =
    (files : List (List ℕ)) × (committee : Option (List ℕ)) × AskFor words files committee × ((committee ≡ Some path) ⊎ Contains files path)

-- why the program gives up over these words
abbrev pub IsCause : List (String Global) → ProgramFault NoFault → Type 0
IsCause words Usage = IsUsage words
IsCause words Memory = IsUsage words → ⊥
IsCause words (File path) = NameFile words path.now
IsCause words (Committee r) =
    (files : List (List ℕ)) × (path : List ℕ) × AskFor words files (Some path) × ((bytes : List ℕ) × (committee_in bytes ≡ Err r))
IsCause words Output = IsUsage words → ⊥
IsCause words (Own fault) = ⊥

-- it gives up over the fault: the fault has its cause, and the text of the first files was written, of the last a first part where
-- a write failed
pub record GivesUp {W : Type 0} (words : List (String Global)) (fault : ProgramFault NoFault) (text : W → Option (List ℕ)) (failed : W → ℕ) (out out' : W) : Type 0 where
  pub cause : IsCause words fault
  pub wrote : fault ≢ Output → (out' ≡ out) ⊎ ((count : ℕ) × (shown : List ℕ) × ShowsFirst words count shown × Wrote (text out) (text out') shown)
  pub cut_short : fault ≡ Output → (count : ℕ) × (shown : List ℕ) × ShowsFirst words count shown × WrotePart (text out) (text out') shown
  pub counted : CountsOutput fault (failed out) (failed out')
