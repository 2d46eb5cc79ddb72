-- What an option takes.
use Rattle.std.proofs.Common.{◌≡◌, ◌≤◌, ◌↔◌, ℕ, List, Bool, true, false, Option, Some, None, IsTrue, ◌∙◌, MatchOption, is_some, subst, sym}
use Rattle.program_parts.specs.Words.{SpellsNumber, SpellsSource}
use Rattle.program_parts.specs.declared.words.SourceWord.{SourceWord}
use Rattle.program_parts.proofs.Numbers.{one_number}
use Rattle.signer_command.specs.WrongWords.{IsValue}
use Rattle.signer_command.specs.declared.wrong_words.Takes.{Takes}
use Rattle.signer_command.specs.declared.wrong_words.Takes.TheVariants.{Sessions, Source}

not_both : (b : Bool) → b ≡ true → b ≡ false → ⊥
not_both b holds fails = let both : true ≡ false = sym holds ∙ fails in cc both

-- a source, or none
pub source_value : (takes : Takes) (word : List ℕ) (r : Option SourceWord) (b : Bool) → takes ≡ Source → b ≡ is_some r
    → MatchOption r ((s : SourceWord) → SpellsSource word s → ⊥) (λ s. SpellsSource word s) → IsTrue b ↔ IsValue takes word
source_value takes word None b is has none =
    subst (λ (t : Takes). IsTrue b ↔ IsValue t word) (sym is) ((λ yes. absurd (not_both b yes has)), (λ value. absurd (none value.0 value.1)))
source_value takes word (Some s) b is has there =
    subst (λ (t : Takes). IsTrue b ↔ IsValue t word) (sym is) ((λ yes. (s, there)), (λ value. has))

-- a number of sessions
pub sessions_value : (takes : Takes) (word : List ℕ) (count : ℕ) (b : Bool) → takes ≡ Sessions → SpellsNumber word count
    → (IsTrue b → (1 ≤ count) × (count ≤ 64)) → (1 ≤ count → count ≤ 64 → IsTrue b) → IsTrue b ↔ IsValue takes word
sessions_value takes word count b is spelled from to =
    subst (λ (t : Takes). IsTrue b ↔ IsValue t word) (sym is) (
      (λ yes. (count, spelled, (from yes).0, (from yes).1)),
      (λ value.
          let same : value.0 ≡ count = one_number word value.0 count value.1 spelled in
          to (subst (λ (n : ℕ). 1 ≤ n) same value.2) (subst (λ (n : ℕ). n ≤ 64) same value.3)),
    )
