-- Failures that were counted.
use Rattle.std.proofs.Common.{◌≡◌, ℕ, ◌-◌, ◌^◌, ◌≤◌, min, Bool, true, false, refl, sym, ap, ◌∙◌, arith}
use Rattle.std.proofs.lemmas.Bool.{false≢true}
use Rattle.log_format.specs.declared.status.Status.{Status}
use Rattle.log_format.specs.declared.status.Status.TheVariants.{Whole, Cut, Broken, TooLong, Failed}
use Rattle.log_transfer.specs.Counting.{IsEnterCounted, IsStatusCounted, is_failed}
use Rattle.log_transfer.specs.Places.{HasCause, IsCaused, IsEnd, may_go_on}
use Rattle.log_transfer.specs.declared.reader_state.ReaderState.{ReaderState}

no_cause : (before now : ℕ) (status : Status) → is_failed status ≡ false → HasCause before now status
no_cause before now status is failed = absurd (false≢true (sym is ∙ ap is_failed failed))

status_caused : (before old new : ℕ) (status : Status) → min before (2 ^ 64 - 1) ≤ old → IsStatusCounted old new status → (min before (2 ^ 64 - 1) ≤ new) × HasCause before new status
status_caused before old new Whole risen is = (omega (arith, risen, is), no_cause before new Whole refl)
status_caused before old new Cut risen is = (omega (arith, risen, is), no_cause before new Cut refl)
status_caused before old new Broken risen is = (omega (arith, risen, is), no_cause before new Broken refl)
status_caused before old new TooLong risen is = (omega (arith, risen, is), no_cause before new TooLong refl)
status_caused before old new Failed risen is = (omega (arith, risen, is), λ e. omega (arith, risen, is))

-- a connection ended, or was not opened
pub ended_caused : (before old new : ℕ) (p q : ReaderState) → IsStatusCounted old new q.last → IsCaused before old p → IsCaused before new q
ended_caused before old new p q is caused =
    let now = status_caused before old new q.last caused.risen is in
    record { risen = now.0; cause = λ closed none. now.1 }

-- one was opened, or ended at its magic
pub entered_caused : (before old mid new : ℕ) (p q : ReaderState) (b : Bool) → q.is_open ≡ b → mid ≡ old → IsEnterCounted mid new b q.last → IsCaused before old p → IsCaused before new q
entered_caused before old mid new p q true shown same is caused = record {
  risen = omega (arith, caused.risen, same, is);
  cause = λ closed. absurd (false≢true (sym closed ∙ shown));
}
entered_caused before old mid new p q false shown same is caused =
    let now = status_caused before mid new q.last (omega (arith, caused.risen, same)) is in
    record { risen = now.0; cause = λ closed none. now.1 }

-- no more is to come
pub end_caused : (before now : ℕ) (q : ReaderState) (status : Status) → IsCaused before now q → IsEnd q → status ≡ q.last → HasCause before now status
end_caused before now q status caused end is failed =
    let last = sym is ∙ failed in
    caused.cause end.closed (end.last (ap may_go_on last)) last
