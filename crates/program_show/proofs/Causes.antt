-- Why the program gives up, and its status.
use Rattle.std.proofs.Common.{◌≡◌, ◌≢◌, ◌⊎◌, ◌==◌, ◌<◌, ℕ, List, [], Bool, true, false, Option, Some, None, Err, if◌then◌else◌, String, take, inl, inr, refl, sym, ap, ◌∙◌, subst, arith}
use Rattle.std.specs.Borrow.{Bor}
use Rattle.std.specs.List.{Contains}
use Rattle.std.specs.declared.alloc.Global.{Global}
use Rattle.base_streams.specs.Streams.{Wrote, WrotePart}
use Rattle.blocks.specs.CommitteeReading.{committee_in}
use Rattle.blocks.specs.declared.committee.CommitteeRefusal.{CommitteeRefusal}
use Rattle.program_parts.specs.Faults.{IsMemoryOr}
use Rattle.program_parts.specs.Writes.{CountsOutput}
use Rattle.program_parts.specs.declared.no_fault.NoFault.{NoFault}
use Rattle.program_parts.specs.declared.program_fault.ProgramFault.{ProgramFault}
use Rattle.program_parts.specs.declared.program_fault.ProgramFault.TheVariants.{Usage, Memory, File, Committee, Output, Own}
use Rattle.program_show.specs.Faults.{GivesUp, IsCause, IsFilesFault, IsStopped}
use Rattle.program_show.specs.Showing.{IsGiven, ShowsFirst}
use Rattle.program_show.specs.Words.{AskFor, IsUsage}

-- ---- the status

pub status_cases : (are_whole : Bool) (status : ℕ) → status ≡ (if are_whole then 0 else 1) → (status ≡ 0) ⊎ ((status ≡ 1) ⊎ (status ≡ 2))
status_cases true status is = inl is
status_cases false status is = inr (inl is)

pub shown_status : (are_whole : Bool) (status : ℕ) → status ≡ (if are_whole then 0 else 1) → are_whole ≡ (status == 0)
shown_status true status is = rw is refl
shown_status false status is = rw is refl

pub no_status_two : (are_whole : Bool) (status : ℕ) → status ≡ (if are_whole then 0 else 1) → status ≢ 2
no_status_two true status is two = omega (arith, is, two)
no_status_two false status is two = omega (arith, is, two)

-- ---- faults

-- words that are no usage of the program give this fault
pub is_usage : (words : List (String Global)) (fault : ProgramFault NoFault) → IsUsage words → IsCause words fault → fault ≡ Usage
is_usage words Usage usage cause = refl
is_usage words Memory usage cause = absurd (cause usage)
is_usage words (File path) usage cause = absurd (usage cause.0 cause.1 cause.2)
is_usage words (Committee r) usage cause = absurd (usage cause.0 (Some cause.1) cause.2)
is_usage words Output usage cause = absurd (cause usage)
is_usage words (Own fault) usage cause = absurd cause

-- nothing was written
unwritten : {W : Type 0} (words : List (String Global)) (fault fault' : ProgramFault NoFault) (text : W → Option (List ℕ)) (failed : W → ℕ) (out : W)
    → fault ≡ fault' → IsCause words fault' → fault' ≢ Output → GivesUp words fault text failed out out
unwritten words fault fault' text failed out e cause other =
    let other' : fault ≢ Output = λ o. other (sym e ∙ o) in
    record {
      cause = subst (λ (f : ProgramFault NoFault). IsCause words f) (sym e) cause;
      wrote = λ _. inl refl;
      cut_short = λ o. absurd (other' o);
      counted = ((λ o. absurd (other' o)), λ _. refl);
    }

-- the words ask for nothing, or there is no memory for what they ask
pub gives_up_words : {W : Type 0} (words : List (String Global)) (fault : ProgramFault NoFault) (text : W → Option (List ℕ)) (failed : W → ℕ) (out : W)
    → ((fault ≡ Usage) × IsUsage words) ⊎ ((fault ≡ Memory) × (IsUsage words → ⊥)) → GivesUp words fault text failed out out
gives_up_words words fault text failed out is =
    elim is [
      | inl usage ↦ unwritten words fault Usage text failed out usage.0 usage.1 (λ o. let no : ⊥ = cc in no)
      | inr memory ↦ unwritten words fault Memory text failed out memory.0 memory.1 (λ o. let no : ⊥ = cc in no)
    ]

-- the committee's file can't be read
pub gives_up_file : {W : Type 0} (words : List (String Global)) (files : List (List ℕ)) (path : Bor (List ℕ)) (fault : ProgramFault NoFault)
    (text : W → Option (List ℕ)) (failed : W → ℕ) (out : W) → AskFor words files (Some path.now) → IsMemoryOr (File path) fault → GivesUp words fault text failed out out
gives_up_file words files path fault text failed out ask is =
    elim is [
      | inl memory ↦ unwritten words fault Memory text failed out memory (λ usage. usage files (Some path.now) ask) (λ o. let no : ⊥ = cc in no)
      | inr file ↦ unwritten words fault (File path) text failed out file (files, Some path.now, ask, inl refl) (λ o. let no : ⊥ = cc in no)
    ]

-- the committee is refused
pub gives_up_committee : {W : Type 0} (words : List (String Global)) (files : List (List ℕ)) (path bytes : List ℕ) (r : CommitteeRefusal) (fault : ProgramFault NoFault)
    (text : W → Option (List ℕ)) (failed : W → ℕ) (out : W) → AskFor words files (Some path) → committee_in bytes ≡ Err r → fault ≡ Committee r
    → GivesUp words fault text failed out out
gives_up_committee words files path bytes r fault text failed out ask refused is =
    unwritten words fault (Committee r) text failed out is (files, path, ask, (bytes, refused)) (λ o. let no : ⊥ = cc in no)

cause_of : (words : List (String Global)) (files : List (List ℕ)) (path : Option (List ℕ)) (fault : ProgramFault NoFault) → AskFor words files path
    → IsFilesFault files fault → IsCause words fault
cause_of words files path Usage ask is = absurd is
cause_of words files path Memory ask is = λ usage. usage files path ask
cause_of words files path (File p) ask is = (files, path, ask, inr is)
cause_of words files path (Committee r) ask is = absurd is
cause_of words files path Output ask is = λ usage. usage files path ask
cause_of words files path (Own fault) ask is = absurd is

-- not all files were shown
pub gives_up_files : {W : Type 0} (words : List (String Global)) (files : List (List ℕ)) (path committee : Option (List ℕ)) (fault : ProgramFault NoFault)
    (text : W → Option (List ℕ)) (failed : W → ℕ) (out out' : W) → AskFor words files path → IsGiven path committee
    → IsStopped committee files fault (text out) (text out') → CountsOutput fault (failed out) (failed out') → GivesUp words fault text failed out out'
gives_up_files words files path committee fault text failed out out' ask given stopped counted =
    let first : ShowsFirst words stopped.count stopped.text =
    record { files = files; path = path; asked = ask; committee = committee; given = given; are_whole = stopped.are_whole; printed = stopped.printed } in
    record {
      cause = cause_of words files path fault ask stopped.cause;
      wrote = λ other. inr (stopped.count, stopped.text, first, stopped.wrote other);
      cut_short = λ o. (stopped.count, stopped.text, first, stopped.cut_short o);
      counted = counted;
    }
