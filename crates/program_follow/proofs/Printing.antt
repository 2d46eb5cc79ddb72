-- What was printed of a step, and why no more.
use Rattle.std.proofs.Common.{◌≡◌, ◌≢◌, ◌⊎◌, ◌++◌, ℕ, List, Option, Result, Ok, Err, refl, sym, subst, inl, inr}
use Rattle.std.specs.Prelude.{IfErr, OnErr}
use Rattle.base_streams.specs.Streams.{Wrote, WrotePart}
use Rattle.base_text.proofs.Pieces.{part_behind}
use Rattle.program_parts.specs.declared.program_fault.ProgramFault.{ProgramFault}
use Rattle.program_parts.specs.declared.program_fault.ProgramFault.TheVariants.{Memory, Output}
use Rattle.program_parts.specs.Writes.{CountsOutput}
use Rattle.program_follow.specs.Faults.{GivesUpOver}
use Rattle.program_follow.specs.declared.fault.FollowFault.{FollowFault}

-- nothing was written where the fault is no failed write
pub silent : {W : Type 0} (Cause : ProgramFault FollowFault → Type 0) (Prints : ℕ → List ℕ → Type 0) (fault : ProgramFault FollowFault) (text : W → Option (List ℕ)) (failed : W → ℕ) (out : W)
    → fault ≢ Output → Cause fault → GivesUpOver Cause Prints fault text failed out out
silent Cause Prints fault text failed out other cause = record {
  cause = λ _. (cause, refl);
  cut_short = λ is. absurd (other is);
  counted = (λ is. absurd (other is), λ _. refl);
}

-- what gives up so gives up for whatever is as much of a cause, over whatever prints as much
pub given_up_as : {W : Type 0} (Cause Cause' : ProgramFault FollowFault → Type 0) (Prints Prints' : ℕ → List ℕ → Type 0) (fault : ProgramFault FollowFault) (text : W → Option (List ℕ)) (failed : W → ℕ) (out out' : W)
    → (fault ≢ Output → Cause fault → Cause' fault) → ((status : ℕ) (whole : List ℕ) → Prints status whole → Prints' status whole)
    → GivesUpOver Cause Prints fault text failed out out' → GivesUpOver Cause' Prints' fault text failed out out'
given_up_as Cause Cause' Prints Prints' fault text failed out out' causes prints up = record {
  cause = λ other. (let c = up.cause other in (causes other c.0, c.1));
  cut_short = λ is. (let c = up.cut_short is in (c.0, c.1, prints c.0 c.1 c.2, c.3));
  counted = up.counted;
}

-- behind what was written a write failed
pub cut_behind : {A W : Type 0} (r : Result A (ProgramFault FollowFault)) (text : W → Option (List ℕ)) (old mid new : W) (first second line : List ℕ) → Wrote (text old) (text mid) first → line ≡ second
    → IfErr r (λ f. f ≡ Output) → OnErr r (WrotePart (text mid) (text new) line) → IfErr r (λ f. ((f ≡ Memory) × (new ≡ old)) ⊎ ((f ≡ Output) × WrotePart (text old) (text new) (first ++ second)))
cut_behind (Ok x) text old mid new first second line wrote same is part = tt
cut_behind (Err f) text old mid new first second line wrote same is part =
    inr (is, part_behind (text old) (text mid) (text new) first second wrote (subst (λ (t : List ℕ). WrotePart (text mid) (text new) t) same part))

-- .. or memory was refused before the first
pub print_failed : {W : Type 0} (Cause : ProgramFault FollowFault → Type 0) (Prints : ℕ → List ℕ → Type 0) (fault : ProgramFault FollowFault) (text : W → Option (List ℕ)) (failed : W → ℕ) (out out' : W) (status : ℕ) (whole : List ℕ)
    → ((fault ≡ Memory) × (out' ≡ out)) ⊎ ((fault ≡ Output) × WrotePart (text out) (text out') whole) → CountsOutput fault (failed out) (failed out') → Cause Memory → Prints status whole
    → GivesUpOver Cause Prints fault text failed out out'
print_failed Cause Prints fault text failed out out' status whole (inl m) counted memory prints = record {
  cause = λ _. (subst Cause (sym m.0) memory, m.1);
  cut_short = λ is. (let no : ⊥ = cc in absurd no);
  counted = counted;
}
print_failed Cause Prints fault text failed out out' status whole (inr o) counted memory prints = record {
  cause = λ other. absurd (other o.0);
  cut_short = λ is. (status, whole, prints, o.1);
  counted = counted;
}
