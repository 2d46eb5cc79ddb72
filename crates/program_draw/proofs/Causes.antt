-- Why the program gives up.
use Rattle.std.proofs.Common.{◌≡◌, ◌≢◌, ◌⊎◌, ℕ, List, [], ◌∷◌, Option, String, inl, inr, refl, sym, ap}
use Rattle.std.specs.declared.alloc.Global.{Global}
use Rattle.program_parts.specs.declared.program_fault.ProgramFault.{ProgramFault}
use Rattle.program_parts.specs.declared.program_fault.ProgramFault.TheVariants.{Usage, Memory, File, Committee, Output, Own}
use Rattle.program_parts.specs.declared.source_fault.SourceFault.TheVariants.{Word, Collision}
use Rattle.program_draw.specs.FaultLines.{draw_fault_line}
use Rattle.program_draw.specs.Faults.{GivesUp}
use Rattle.program_draw.specs.Outputs.{IsOutput}
use Rattle.program_draw.specs.Words.{AskForPicture, HaveBadSource, IsUsage, IsWordsFault, first_wrong, usage_fault_line}
use Rattle.program_draw.specs.declared.fault.DrawFault.{DrawFault}
use Rattle.program_draw.specs.declared.fault.DrawFault.TheVariants.{Sources, Word as Wrong}
use Rattle.program_draw.specs.declared.words.SourceFile.{SourceFile}

no_usage : (words : List (String Global)) (committee : List ℕ) (sources : List SourceFile) → IsUsage words → AskForPicture words committee sources → ⊥
no_usage [] committee sources usage ask = ask
no_usage (word ∷ words) committee sources usage ask = usage.not_sources ask.0

bad_is_no_usage : (words : List (String Global)) (i : ℕ) → IsUsage words → HaveBadSource words i → ⊥
bad_is_no_usage [] i usage bad = bad
bad_is_no_usage (word ∷ words) i usage bad = usage.not_sources bad.0

-- the word that is wrong is told, or that one is missing
usage_of_words : (words : List (String Global)) (fault : ProgramFault DrawFault) → IsUsage words → IsWordsFault words fault
    → draw_fault_line fault ≡ usage_fault_line (first_wrong words)
usage_of_words words Usage usage is = sym (ap usage_fault_line is.1)
usage_of_words words (Own (Wrong word)) usage is = sym (ap usage_fault_line is.1)
usage_of_words words Memory usage is = absurd (usage.not_sources is)
usage_of_words words (File path) usage is = absurd is
usage_of_words words (Committee r) usage is = absurd is
usage_of_words words Output usage is = absurd is
usage_of_words words (Own (Sources (Word i))) usage is = absurd (bad_is_no_usage words i usage is)
usage_of_words words (Own (Sources Collision)) usage is = absurd is

pub output_is_no_usage : (words : List (String Global)) (text : List ℕ) → IsUsage words → IsOutput words text → ⊥
output_is_no_usage [] text usage is = usage.some refl
output_is_no_usage (word ∷ words) text usage (committee, sources, ask, is) = no_usage (word ∷ words) committee sources usage ask

fault_cases : (fault : ProgramFault DrawFault) → (fault ≡ Output) ⊎ (fault ≢ Output)
fault_cases Usage = inr (λ e. let no : ⊥ = cc in no)
fault_cases Memory = inr (λ e. let no : ⊥ = cc in no)
fault_cases (File path) = inr (λ e. let no : ⊥ = cc in no)
fault_cases (Committee r) = inr (λ e. let no : ⊥ = cc in no)
fault_cases Output = inl refl
fault_cases (Own own) = inr (λ e. let no : ⊥ = cc in no)

-- words that are no usage of the program give this line
pub is_usage : {W : Type 0} (words : List (String Global)) (fault : ProgramFault DrawFault) (text : W → Option (List ℕ)) (failed : W → ℕ) (out out' : W) → IsUsage words
    → GivesUp words fault text failed out out' → draw_fault_line fault ≡ usage_fault_line (first_wrong words)
is_usage words fault text failed out out' usage gives = elim (fault_cases fault) [
  | inl e ↦ let cut = gives.cut_short e in absurd (output_is_no_usage words cut.0 usage cut.1)
  | inr other ↦ elim (gives.cause other).0 [
    | inl is ↦ usage_of_words words fault usage is
    | inr is ↦ absurd (no_usage words is.0 is.1 usage is.2)
  ]
]
