-- What the program prints, and why it gives up.
use Rattle.std.specs.Prelude.{◌≡◌, ◌≢◌, ◌⊎◌, ℕ, List, Option, Err, String, ⊤}
use Rattle.std.specs.declared.alloc.Global.{Global}
use Rattle.base_streams.specs.Streams.{WrotePart}
use Rattle.blocks.specs.CommitteeReading.{committee_in}
use Rattle.blocks.specs.Committees.{IsCommittee}
use Rattle.program_parts.specs.Writes.{CountsOutput}
use Rattle.program_parts.specs.declared.program_fault.ProgramFault.{ProgramFault}
use Rattle.program_parts.specs.declared.program_fault.ProgramFault.TheVariants.{Memory, File, Committee, Output}
use Rattle.program_parts.specs.declared.words.SourceWord.{SourceWord}
use Rattle.handover_steps.specs.JudgedSteps.{IsLineageOf, Lineage}
use Rattle.handover_steps.specs.Steps.{StepFiles}
use Rattle.handover_steps.specs.LineageLines.{lineage_status, lineage_text}
use Rattle.program_follow.specs.LineageWords.{AskForLineage, IsWordsFault}
use Rattle.program_follow.specs.declared.lineage_fault.LineageFault.{LineageFault}

-- the lines on what is found of the steps by some files from some committee, and the status that goes with it
pub record IsFound (status : ℕ) (text : List ℕ) : Type 0 where
  pub root : List ℕ
  pub is_root : IsCommittee root
  pub files : List StepFiles
  pub lineage : Lineage
  pub is_lineage : IsLineageOf root files lineage
  pub later : Option ℕ
  pub told : text ≡ lineage_text lineage later
  pub ends : status ≡ lineage_status lineage.refused later

-- of the lineage that the words ask for
abbrev pub IsOutput : List (String Global) → ℕ → List ℕ → Type 0
IsOutput words status text = (root : List ℕ) × (dir : List ℕ) × (sources : List SourceWord) × AskForLineage words root dir sources × IsFound status text

-- memory was refused, or the folder's files can't be read or written
abbrev pub IsDirFault : List ℕ → ProgramFault LineageFault → Type 0
IsDirFault dir Memory = ⊤
IsDirFault dir (File path) = path.now ≡ dir
IsDirFault dir fault = ⊥

-- why there is none by the committee's file at the one path, and the folder at the other
abbrev pub IsFindingFault : (root dir : List ℕ) → ProgramFault LineageFault → Type 0
IsFindingFault root dir Memory = ⊤
IsFindingFault root dir (File path) = (path.now ≡ root) ⊎ (path.now ≡ dir)
IsFindingFault root dir (Committee r) = (bytes : List ℕ) × (committee_in bytes ≡ Err r)
IsFindingFault root dir fault = ⊥

-- why the program gives up over words, but where a write failed
abbrev pub IsCause : List (String Global) → ProgramFault LineageFault → Type 0
IsCause words fault =
    IsWordsFault words fault
    ⊎ ((root : List ℕ) × (dir : List ℕ) × (sources : List SourceWord) × AskForLineage words root dir sources × IsFindingFault root dir fault)

-- it gives up over the fault: the fault has its cause and nothing was written, or a write failed behind a first part of what it was to
-- print
pub record GivesUp {W : Type 0} (words : List (String Global)) (fault : ProgramFault LineageFault) (text : W → Option (List ℕ)) (failed : W → ℕ) (out out' : W) : Type 0 where
  pub cause : fault ≢ Output → IsCause words fault × (out' ≡ out)
  pub cut_short : fault ≡ Output → (status : ℕ) × (whole : List ℕ) × IsOutput words status whole × WrotePart (text out) (text out') whole
  pub counted : CountsOutput fault (failed out) (failed out')
