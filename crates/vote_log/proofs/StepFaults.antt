-- Why reading all entries fails.
use Rattle.std.proofs.Common.{◌≡◌, ℕ, ◌<◌, List, length, take, Option, Some, false, sym, subst, ◌∙◌, ap, arith}
use Rattle.std.proofs.lemmas.Bool.{false≢true}
use Rattle.blocks.specs.Headers.{Header}
use Rattle.blocks.specs.Replica.{Stored}
use Rattle.blocks.specs.Replay.{IsLegal}
use Rattle.stable_log.proofs.Told.{some_if, if_some}
use Rattle.stable_log.specs.State.{JournalState}
use Rattle.log_format.specs.EntryText.{Entry}
use Rattle.vote_log.specs.Logs.{AreTexts, IsEntryAt, IsFirstUnreadable}
use Rattle.vote_log.specs.LogRefusals.{IsEntryReadRefusal, IsStepsRefusal}
use Rattle.vote_log.specs.declared.log_error.LogError.{LogError}
use Rattle.vote_log.specs.declared.log_error.LogError.TheVariants.{Memory, Device, NotAJournal, Damaged, Full, Stopped, NoSuchEntry, BadEntry, IllegalLog}
use Rattle.vote_log.proofs.LogLaws.{first_unreadable}

module _ {D : Type 0} (genesis : Header) (told now : Option (List ℕ)) (journal : JournalState D) (payloads : List (List ℕ)) (k : ℕ) (steps : List Stored) (same : now ≡ told) (list : journal.payloads ≡ payloads) (running : journal.stopped ≡ false) (below : k < length payloads) (legal : IsLegal genesis steps) (read : (bs : List ℕ) → told ≡ Some bs → AreTexts (take k payloads) steps) where
  -- an entry that can not be read after legal ones is the first that is bad
  pub steps_fault : (e : LogError) → IsEntryReadRefusal now journal k e → IsStepsRefusal genesis told payloads e
  steps_fault Memory fault = tt
  steps_fault Device fault = tt
  steps_fault Stopped fault = absurd (false≢true (sym running ∙ fault))
  steps_fault NoSuchEntry fault = let past = fault.1 in absurd (omega (arith, ap length list))
  steps_fault (BadEntry j) fault =
      some_if told (λ _. IsFirstUnreadable genesis payloads j) (λ bs is.
      let none : (e : Entry) → IsEntryAt journal.payloads k e → ⊥ = if_some now (λ _. (e : Entry) → IsEntryAt journal.payloads k e → ⊥) bs fault.2 (same ∙ is) in
      subst (λ (n : ℕ). IsFirstUnreadable genesis payloads n) (sym fault.1)
      (first_unreadable genesis payloads k steps below (read bs is) legal (subst (λ (l : List (List ℕ)). (e : Entry) → IsEntryAt l k e → ⊥) list none)))
  steps_fault NotAJournal fault = absurd fault
  steps_fault Damaged fault = absurd fault
  steps_fault Full fault = absurd fault
  steps_fault (IllegalLog j) fault = absurd fault
