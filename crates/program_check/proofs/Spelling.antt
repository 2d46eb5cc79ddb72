-- A text that spells no two texts.
use Rattle.std.proofs.Common.{◌≡◌, ◌<◌, ◌≤◌, ℕ, List, Ok, Option, IfSome, length, take, ◌⊎◌, inl, inr, sym, ◌∙◌, ap, subst, arith}
use Rattle.std.proofs.lemmas.List.{length-take}
use Rattle.std.proofs.lemmas.Option.{IfSome_then}
use Rattle.hex.specs.Hex.{decode_of}
use Rattle.program_parts.specs.declared.program_fault.ProgramFault.{ProgramFault}
use Rattle.program_parts.specs.declared.program_fault.ProgramFault.TheVariants.{Memory, Own}
use Rattle.program_check.specs.Faults.{IsStdinFault}
use Rattle.program_check.specs.declared.fault.CheckFault.{CheckFault}
use Rattle.program_check.specs.declared.fault.CheckFault.TheVariants.{Hex}
use Rattle.program_check.specs.Judgements.{SpellsNone, SpellsTexts}
use Rattle.program_check.specs.Lines.{AreTwoLines}
use Rattle.program_check.specs.declared.input.TheConstants.{MOST_OF_STDIN}
use Rattle.program_check.proofs.Splitting.{one_pair}

-- it is too long
pub too_long : (text : List ℕ) → MOST_OF_STDIN < length text → SpellsNone text
too_long text long committee verdict spells = let short = spells.short in absurd (omega arith)

-- .. where more than its limit was read
pub too_much : (stdin : Option (List ℕ)) (text : List ℕ) (n : ℕ) → IfSome stdin (λ all. text ≡ take n all) → MOST_OF_STDIN < length text → IfSome stdin SpellsNone
too_much stdin text n first long =
    IfSome_then stdin first (λ all is. too_long all (let part = ap (λ (l : List ℕ). length l) is ∙ length-take n all in omega (arith, length-take n all)))

-- its first line spells no bytes
pub first_is_not_hex : (text first second : List ℕ) → AreTwoLines text first second → ((bytes : List ℕ) → decode_of first ≡ Ok bytes → ⊥) → SpellsNone text
first_is_not_hex text first second lines none committee verdict spells =
    let same = (one_pair text first second spells.first spells.second lines spells.lines).0 in
    none committee (subst (λ (l : List ℕ). decode_of l ≡ Ok committee) (sym same) spells.spells_committee)

-- its second line spells no bytes
pub second_is_not_hex : (text first second : List ℕ) → AreTwoLines text first second → ((bytes : List ℕ) → decode_of second ≡ Ok bytes → ⊥) → SpellsNone text
second_is_not_hex text first second lines none committee verdict spells =
    let same = (one_pair text first second spells.first spells.second lines spells.lines).1 in
    none verdict (subst (λ (l : List ℕ). decode_of l ≡ Ok verdict) (sym same) spells.spells_verdict)

-- ---- faults

abbrev pub IsNotSpelled : List ℕ → ProgramFault CheckFault → Type 0
IsNotSpelled text fault = (fault ≡ Memory) ⊎ ((fault ≡ Own Hex) × SpellsNone text)

pub not_spelled : (text : List ℕ) (none : Type 0) (fault : ProgramFault CheckFault) → (none → SpellsNone text) → (fault ≡ Memory) ⊎ ((fault ≡ Own Hex) × none)
    → IsNotSpelled text fault
not_spelled text none fault so is =
    elim is [
      | inl memory ↦ inl memory
      | inr hex ↦ inr (hex.0, so hex.1)
    ]

-- what was read is all of standard input
pub of_text : (stdin : Option (List ℕ)) (text seen : List ℕ) (fault : ProgramFault CheckFault) → IfSome stdin (λ all. text ≡ all) → seen ≡ text → IsNotSpelled seen fault
    → IsStdinFault stdin fault
of_text stdin text seen fault whole same is =
    elim is [
      | inl memory ↦ inl (inl memory)
      | inr hex ↦ inr (hex.0, IfSome_then stdin whole (λ all e. subst (λ (t : List ℕ). SpellsNone t) (same ∙ e) hex.1))
    ]
