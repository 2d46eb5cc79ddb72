-- What the program judges, and what it prints and answers then.
use Rattle.std.specs.Prelude.{◌≡◌, ◌⊎◌, ◌≤◌, [], ℕ, List, Option, Ok, IfSome, String, length}
use Rattle.std.specs.declared.alloc.Global.{Global}
use Rattle.hex.specs.Hex.{decode_of}
use Rattle.blocks.specs.Committees.{IsCommittee}
use Rattle.verdict_format.specs.Proofs.{IsProof}
use Rattle.verdict_checker.specs.Checks.{IsRefused}
use Rattle.verdict_checker.specs.declared.refusal.Refusal.{Refusal}
use Rattle.program_check.specs.Lines.{AreTwoLines}
use Rattle.program_check.specs.Texts.{accepted_line, refused_line}
use Rattle.program_check.specs.Words.{IsUsage}
use Rattle.program_check.specs.declared.input.TheConstants.{MOST_OF_STDIN}

-- of the two lines of a text that is not too long the first spells the committee in hex digits, and the second the verdict
pub record SpellsTexts (text committee verdict : List ℕ) : Type 0 where
  pub short : length text ≤ MOST_OF_STDIN
  pub first : List ℕ
  pub second : List ℕ
  pub lines : AreTwoLines text first second
  pub spells_committee : decode_of first ≡ Ok committee
  pub spells_verdict : decode_of second ≡ Ok verdict

abbrev pub SpellsNone : List ℕ → Type 0
SpellsNone text = (committee verdict : List ℕ) → SpellsTexts text committee verdict → ⊥

-- the texts that the words ask for: with no words what standard input spells, where it tells what it gives, and else those of
-- two files, which tell nothing
pub record AreTexts (words : List (String Global)) (stdin : Option (List ℕ)) (committee verdict : List ℕ) : Type 0 where
  pub asked : IsUsage words → ⊥
  pub spelled : words ≡ [] → IfSome stdin (λ text. SpellsTexts text committee verdict)

-- the status and the line of a judgement: 0 and the accepted line where the verdict is a proof under the committee, else 1 and
-- the line of its refusal
abbrev pub IsJudgement : List ℕ → List ℕ → ℕ → List ℕ → Type 0
IsJudgement committee verdict status line =
    ((status ≡ 0) × IsProof committee verdict × (line ≡ accepted_line verdict))
    ⊎ ((status ≡ 1) × (IsProof committee verdict → ⊥) × ((r : Refusal) × IsRefused committee verdict r × (line ≡ refused_line r)))

-- what the program comes to: the status and the line of the judgement of such texts
pub record ComesTo (words : List (String Global)) (stdin : Option (List ℕ)) (status : ℕ) (line : List ℕ) : Type 0 where
  pub committee : List ℕ
  pub verdict : List ℕ
  pub texts : AreTexts words stdin committee verdict
  pub under : IsCommittee committee
  pub judgement : IsJudgement committee verdict status line
