-- Why the program gives up, and what it leaves then.
use Rattle.std.specs.Prelude.{◌≡◌, ◌≢◌, ◌⊎◌, [], ℕ, List, Option, Err, IfSome, String}
use Rattle.std.specs.declared.alloc.Global.{Global}
use Rattle.blocks.specs.CommitteeReading.{committee_in}
use Rattle.base_streams.specs.Streams.{WrotePart}
use Rattle.program_parts.specs.Faults.{IsMemoryOr}
use Rattle.program_parts.specs.Writes.{CountsOutput}
use Rattle.program_parts.specs.declared.program_fault.ProgramFault.{ProgramFault}
use Rattle.program_parts.specs.declared.program_fault.ProgramFault.TheVariants.{Usage, Memory, File, Committee, Output, Own}
use Rattle.program_check.specs.Judgements.{AreTexts, ComesTo, SpellsNone}
use Rattle.program_check.specs.Words.{AreFiles, IsUsage}
use Rattle.program_check.specs.declared.fault.CheckFault.{CheckFault}
use Rattle.program_check.specs.declared.fault.CheckFault.TheVariants.{Hex, Unreadable}

-- why standard input, which has this text left if it tells that, gives no two texts
abbrev pub IsStdinFault : Option (List ℕ) → ProgramFault CheckFault → Type 0
IsStdinFault stdin fault = IsMemoryOr (Own Unreadable) fault ⊎ ((fault ≡ Own Hex) × IfSome stdin SpellsNone)

-- why the program gives up over these words and this standard input
abbrev pub IsCause : List (String Global) → Option (List ℕ) → ProgramFault CheckFault → Type 0
IsCause words stdin Usage = IsUsage words
IsCause words stdin Memory = IsUsage words → ⊥
IsCause words stdin (File path) =
    (committee : List ℕ) × (verdict : List ℕ) × AreFiles words committee verdict × ((path.now ≡ committee) ⊎ (path.now ≡ verdict))
IsCause words stdin (Committee r) =
    (committee : List ℕ) × (verdict : List ℕ) × AreTexts words stdin committee verdict × (committee_in committee ≡ Err r)
IsCause words stdin Output = IsUsage words → ⊥
IsCause words stdin (Own Hex) = (words ≡ []) × IfSome stdin SpellsNone
IsCause words stdin (Own Unreadable) = words ≡ []

-- a first part of the line of what it comes to was written
abbrev pub IsCutShort : List (String Global) → Option (List ℕ) → Option (List ℕ) → Option (List ℕ) → Type 0
IsCutShort words stdin before after = (status : ℕ) × (line : List ℕ) × ComesTo words stdin status line × WrotePart before after line

-- it gives up over the fault: the fault has its cause, and nothing was written but where a write failed
pub record GivesUp {W : Type 0} (words : List (String Global)) (stdin : Option (List ℕ)) (fault : ProgramFault CheckFault)
    (text : W → Option (List ℕ)) (failed : W → ℕ) (out out' : W) : Type 0 where
  pub cause : IsCause words stdin fault
  pub unwritten : fault ≢ Output → out' ≡ out
  pub cut_short : fault ≡ Output → IsCutShort words stdin (text out) (text out')
  pub counted : CountsOutput fault (failed out) (failed out')
