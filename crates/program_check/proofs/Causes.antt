-- Why the program gives up.
use Rattle.std.proofs.Common.{◌≡◌, ◌≢◌, ◌⊎◌, ◌<◌, ◌==◌, ℕ, Bool, true, false, List, [], ◌∷◌, Option, Result, Err, IfErr, IfSome, map, length, get_or, String, string_bytes, string_len, inl, inr, refl, sym, ap, ◌∙◌, subst, arith}
use Rattle.std.specs.Borrow.{Bor}
use Rattle.std.specs.declared.alloc.Global.{Global}
use Rattle.base_streams.specs.Counting.{one_more}
use Rattle.base_streams.specs.Streams.{WrotePart}
use Rattle.blocks.specs.CommitteeReading.{committee_in}
use Rattle.blocks.specs.declared.committee.CommitteeRefusal.{CommitteeRefusal}
use Rattle.program_parts.specs.Faults.{IsMemoryOr}
use Rattle.program_parts.specs.declared.program_fault.ProgramFault.{ProgramFault}
use Rattle.program_parts.specs.declared.program_fault.ProgramFault.TheVariants.{Usage, Memory, File, Committee, Output, Own}
use Rattle.program_check.specs.Faults.{GivesUp, IsCause, IsStdinFault}
use Rattle.program_check.specs.Judgements.{AreTexts, ComesTo, SpellsNone}
use Rattle.program_check.specs.Words.{AreFiles, IsUsage}
use Rattle.program_check.specs.declared.fault.CheckFault.{CheckFault}
use Rattle.program_check.specs.declared.fault.CheckFault.TheVariants.{Hex, Unreadable}

-- a fault that has its cause, and is not the output's
abbrev pub IsReadingFault : List (String Global) → Option (List ℕ) → ProgramFault CheckFault → Type 0
IsReadingFault words stdin fault = IsCause words stdin fault × (fault ≢ Output)

same_cause : (words : List (String Global)) (stdin : Option (List ℕ)) (fault fault' : ProgramFault CheckFault) → fault ≡ fault' → IsReadingFault words stdin fault'
    → IsReadingFault words stdin fault
same_cause words stdin fault fault' e is = subst (λ (f : ProgramFault CheckFault). IsReadingFault words stdin f) (sym e) is

memory_is_not_output : ◌≡◌ {A = ProgramFault CheckFault} Memory Output → ⊥
memory_is_not_output e = cc

own_is_not_output : (own : CheckFault) → ◌≡◌ {A = ProgramFault CheckFault} (Own own) Output → ⊥
own_is_not_output own e = cc

file_is_not_output : (path : Bor (List ℕ)) → ◌≡◌ {A = ProgramFault CheckFault} (File path) Output → ⊥
file_is_not_output path e = cc

-- with no words standard input gives no two texts
pub of_stdin : (words : List (String Global)) (stdin : Option (List ℕ)) (fault : ProgramFault CheckFault) → words ≡ [] → IsStdinFault stdin fault
    → IsReadingFault words stdin fault
of_stdin words stdin fault none is =
    let asked : IsUsage words → ⊥ = λ usage. usage.some none in
    elim is [
      | inl unread ↦ elim unread [
        | inl e ↦ same_cause words stdin fault Memory e (asked, memory_is_not_output)
        | inr e ↦ same_cause words stdin fault (Own Unreadable) e (none, own_is_not_output Unreadable)
      ]
      | inr hex ↦ same_cause words stdin fault (Own Hex) hex.0 ((none, hex.1), own_is_not_output Hex)
    ]

-- what is not empty is some text
pub not_empty : (s : String Global) (empty : Bool) → empty ≡ (string_len s == 0) → empty ≡ false → string_bytes s ≢ []
not_empty s empty is not none =
    let zero : string_len s ≡ 0 = s.bytes.ok.0 ∙ ap (λ (t : List ℕ). length t) none in
    let yes : (string_len s == 0) ≡ true = rw zero refl in
    let no : false ≡ true = sym not ∙ is ∙ yes in
    cc

two_words : (words : List (String Global)) (first second : String Global) → length words ≡ 2 → first ≡ get_or words 0 first → second ≡ get_or words 1 second
    → map (λ w. string_bytes w) words ≡ string_bytes first ∷ string_bytes second ∷ []
two_words [] first second two a b = absurd (omega arith)
two_words (x ∷ []) first second two a b = absurd (omega arith)
two_words (x ∷ y ∷ []) first second two a b = cc
two_words (x ∷ y ∷ z ∷ rest) first second two a b = absurd (omega arith)

-- two words that are not empty name two files
pub are_files : (words : List (String Global)) (first second : String Global) → length words ≡ 2 → first ≡ get_or words 0 first → second ≡ get_or words 1 second
    → string_bytes first ≢ [] → string_bytes second ≢ [] → AreFiles words (string_bytes first) (string_bytes second)
are_files words first second two a b some_first some_second =
    record { two = two_words words first second two a b; some_committee = some_first; some_verdict = some_second }

-- a file can't be read
pub of_files : (words : List (String Global)) (stdin : Option (List ℕ)) (committee verdict : List ℕ) (path path' : Bor (List ℕ)) (fault : ProgramFault CheckFault)
    → AreFiles words committee verdict → path.now ≡ committee → path'.now ≡ verdict → IsMemoryOr (File path) fault ⊎ IsMemoryOr (File path') fault
    → IsReadingFault words stdin fault
of_files words stdin committee verdict path path' fault are first second is =
    let asked : IsUsage words → ⊥ = λ usage. usage.not_two committee verdict are in
    elim is [
      | inl of_first ↦ elim of_first [
        | inl e ↦ same_cause words stdin fault Memory e (asked, memory_is_not_output)
        | inr e ↦ same_cause words stdin fault (File path) e ((committee, verdict, are, inl first), file_is_not_output path)
      ]
      | inr of_second ↦ elim of_second [
        | inl e ↦ same_cause words stdin fault Memory e (asked, memory_is_not_output)
        | inr e ↦ same_cause words stdin fault (File path') e ((committee, verdict, are, inr second), file_is_not_output path')
      ]
    ]

-- the words are no usage of the program
pub of_usage : (words : List (String Global)) (stdin : Option (List ℕ)) → IsUsage words → IsReadingFault words stdin Usage
of_usage words stdin is = (is, λ e. let no : ⊥ = cc in no)

-- the committee is refused
pub of_committee : (words : List (String Global)) (stdin : Option (List ℕ)) (committee verdict bytes : List ℕ) (r : CommitteeRefusal) (fault : ProgramFault CheckFault)
    → AreTexts words stdin committee verdict → bytes ≡ committee → committee_in bytes ≡ Err r → fault ≡ Committee r → IsReadingFault words stdin fault
of_committee words stdin committee verdict bytes r fault texts same refused e =
    let refused' : committee_in committee ≡ Err r = subst (λ (b : List ℕ). committee_in b ≡ Err r) same refused in
    same_cause words stdin fault (Committee r) e ((committee, verdict, texts, refused'), λ o. let no : ⊥ = cc in no)

-- nothing was written
pub gives_up_unwritten : {W : Type 0} (words : List (String Global)) (stdin : Option (List ℕ)) (fault : ProgramFault CheckFault) (text : W → Option (List ℕ))
    (failed : W → ℕ) (out : W) → IsReadingFault words stdin fault → GivesUp words stdin fault text failed out out
gives_up_unwritten words stdin fault text failed out (cause, other) = record {
  cause = cause;
  unwritten = λ _. refl;
  cut_short = λ e. absurd (other e);
  counted = ((λ e. absurd (other e)), λ _. refl);
}

-- a write failed
pub gives_up_cut_short : {W : Type 0} (words : List (String Global)) (stdin : Option (List ℕ)) (fault : ProgramFault CheckFault) (text : W → Option (List ℕ))
    (failed : W → ℕ) (out out' : W) (status : ℕ) (line : List ℕ) → fault ≡ Output → ComesTo words stdin status line → WrotePart (text out) (text out') line
    → failed out' ≡ one_more (failed out) → GivesUp words stdin fault text failed out out'
gives_up_cut_short words stdin fault text failed out out' status line e comes part risen = record {
  cause = subst (λ (f : ProgramFault CheckFault). IsCause words stdin f) (sym e) comes.texts.asked;
  unwritten = λ other. absurd (other e);
  cut_short = λ _. (status, line, comes, part);
  counted = ((λ _. risen), λ other. absurd (other e));
}

-- no words but such as are no usage give this fault
pub is_usage : (words : List (String Global)) (stdin : Option (List ℕ)) (fault : ProgramFault CheckFault) → IsUsage words → IsCause words stdin fault → fault ≡ Usage
is_usage words stdin Usage usage cause = refl
is_usage words stdin Memory usage cause = absurd (cause usage)
is_usage words stdin (File path) usage (committee, verdict, are, which) = absurd (usage.not_two committee verdict are)
is_usage words stdin (Committee r) usage (committee, verdict, texts, refused) = absurd (texts.asked usage)
is_usage words stdin Output usage cause = absurd (cause usage)
is_usage words stdin (Own Hex) usage cause = absurd (usage.some cause.0)
is_usage words stdin (Own Unreadable) usage cause = absurd (usage.some cause)
