-- What appending keeps, and what a crash leaves meanwhile.
use Rattle.std.proofs.Common.{Bool, ◌≡◌, ◌≢◌, ◌↔◌, inl, inr, ⊎_elim, ℕ, ◌+◌, true, false, List, [], ◌∷◌, ◌++◌, length, Option, Some, None, IfSome, IsSome, refl, sym, ap, subst, ◌∙◌, arith}
use Rattle.std.specs.Prelude.{map}
use Rattle.std.proofs.lemmas.Bool.{false≢true}
use Rattle.blocks.specs.Headers.{Header}
use Rattle.blocks.specs.Replica.{Stored}
use Rattle.blocks.specs.Replay.{IsLegal}
use Rattle.stable_log.proofs.Told.{some_if, if_some}
use Rattle.stable_log.specs.Crash.{LeavesOnly}
use Rattle.stable_log.specs.Image.{StandsFor, LeavesList, IsBeforeOrAfter}
use Rattle.stable_log.specs.State.{JournalState}
use Rattle.stable_log.specs.declared.error.JournalError.{JournalError}
use Rattle.stable_log.specs.declared.error.JournalError.TheVariants.{Memory, Device, NotAJournal, Damaged, Full, TooLong, Stopped, NoSuchEntry}
use Rattle.log_format.specs.EntryText.{Entry, IsEntryOf, stored_in}
use Rattle.log_format.specs.EntryReading.{entry_in}
use Rattle.vote_log.specs.Logs.{AreTexts, IsLogBeforeOrAfter, KeepsLog, LeavesEntries, texts_of}
use Rattle.vote_log.proofs.LogLaws.{entries_push, length-push, texts_and_one, texts_are, texts_push}

-- a disk that tells now told before
pub told_before : (now told : Option (List ℕ)) (bs : List ℕ) → IsSome now ↔ IsSome told → now ≡ Some bs → (x : List ℕ) × (told ≡ Some x)
told_before now (Some x) bs tells is = (x, refl)
told_before now None bs tells is =
    let some : IsSome now = subst IsSome (sym is) refl in
    absurd (false≢true (tells.0 some))

by_device : (e : JournalError) (P : Type 0) → (e ≡ Device → P) → (e ≢ Device → P) → P
by_device Device P failed other = failed refl
by_device Memory P failed other = other (λ h. cc)
by_device NotAJournal P failed other = other (λ h. cc)
by_device Damaged P failed other = other (λ h. cc)
by_device Full P failed other = other (λ h. cc)
by_device TooLong P failed other = other (λ h. cc)
by_device Stopped P failed other = other (λ h. cc)
by_device NoSuchEntry P failed other = other (λ h. cc)

-- after a refusal
pub kept_refused : {D : Type 0} (bytes : D → Option (List ℕ)) (images : D → List ℕ → Type 0) (old new : JournalState D) (genesis : Header) (steps : List Stored) (e : JournalError)
    → KeepsLog (bytes old.disk) (images old.disk) old.payloads old.stopped genesis steps
    → (e ≡ Device → (new.payloads ≡ old.payloads) × (new.stopped ≡ true)) → (e ≢ Device → new ≡ old) → IsSome (bytes new.disk) ↔ IsSome (bytes old.disk)
    → KeepsLog (bytes new.disk) (images new.disk) new.payloads new.stopped genesis steps
kept_refused {D} bytes images old new genesis steps e keeps device other tells =
    let Keeps : JournalState D → Type 0 = λ (j : JournalState D). KeepsLog (bytes j.disk) (images j.disk) j.payloads j.stopped genesis steps in
    let unchanged : (e ≢ Device) → Keeps new = λ ne. subst Keeps (sym (other ne)) keeps in
    let failed : (e ≡ Device) → Keeps new = λ is.
    let after = device is in
    record {
      root = keeps.root;
      legal = keeps.legal;
      counted = ap length after.0 ∙ keeps.counted;
      listed = λ bs told. subst (λ (l : List (List ℕ)). AreTexts l steps) (sym after.0) (let before = told_before (bytes new.disk) (bytes old.disk) bs tells told in keeps.listed before.0 before.1);
      durable = λ running bs told. absurd (false≢true (sym running ∙ after.1));
    } in
    by_device e (Keeps new) failed unchanged

-- after an append
pub kept_appended : (told now : Option (List ℕ)) (images later : List ℕ → Type 0) (payloads new : List (List ℕ)) (stopped still : Bool) (genesis : Header) (steps : List Stored) (text : List ℕ) (e : Entry)
    → KeepsLog told images payloads stopped genesis steps → IsLegal genesis (steps ++ stored_in e ∷ []) → IsEntryOf text e
    → IfSome told (λ _. new ≡ payloads ++ text ∷ []) → length new ≡ length payloads + 1 → IsSome now ↔ IsSome told → IfSome told (λ _. LeavesList later new)
    → KeepsLog now later new still genesis (steps ++ stored_in e ∷ [])
kept_appended told now images later payloads new stopped still genesis steps text e keeps legal is list count tells durable = record {
  root = keeps.root;
  legal = legal;
  counted = count ∙ ap (λ (n : ℕ). n + 1) keeps.counted ∙ sym (length-push steps (stored_in e));
  listed = λ bs told_now.
      let before = told_before now told bs tells told_now in
      subst (λ (l : List (List ℕ)). AreTexts l (steps ++ stored_in e ∷ [])) (sym (if_some told (λ _. new ≡ payloads ++ text ∷ []) before.0 list before.1))
      (texts_and_one payloads steps text e (keeps.listed before.0 before.1) is);
  durable = λ running bs told_now.
      let before = told_before now told bs tells told_now in
      if_some told (λ _. LeavesList later new) before.0 durable before.1;
}

-- the entries of the new list
pub appended_entries : (told : Option (List ℕ)) (payloads new : List (List ℕ)) (text : List ℕ) (e : Entry) → IsEntryOf text e → IfSome told (λ _. new ≡ payloads ++ text ∷ [])
    → IfSome told (λ _. map entry_in new ≡ map entry_in payloads ++ e ∷ [])
appended_entries told payloads new text e is list =
    some_if told (λ _. map entry_in new ≡ map entry_in payloads ++ e ∷ []) (λ bs at.
    ap (map entry_in) (if_some told (λ _. new ≡ payloads ++ text ∷ []) bs list at) ∙ entries_push payloads text e is)

module _ (payloads : List (List ℕ)) (steps : List Stored) (text : List ℕ) (e : Entry) (is : IsEntryOf text e) (texts : AreTexts payloads steps) where
  before_texts : payloads ≡ texts_of (map entry_in payloads)
  before_texts = texts_are payloads texts.each

  after_texts : payloads ++ text ∷ [] ≡ texts_of (map entry_in payloads ++ e ∷ [])
  after_texts =
      ap (λ (l : List (List ℕ)). l ++ text ∷ []) before_texts ∙ ap (λ (t : List ℕ). texts_of (map entry_in payloads) ++ t ∷ []) is.text
      ∙ sym (texts_push (map entry_in payloads) e)

  before_or_after : (image : List ℕ) → IsBeforeOrAfter payloads text image → IsLogBeforeOrAfter (map entry_in payloads) e image
  before_or_after image (inl stands) = inl (subst (λ (l : List (List ℕ)). StandsFor image l) before_texts stands)
  before_or_after image (inr stands) = inr (subst (λ (l : List (List ℕ)). StandsFor image l) after_texts stands)

  module _ {D : Type 0} (moment : D → ℕ) (images_since : D → ℕ → List ℕ → Type 0) (old new : D) where
    -- a run of calls that leaves the one list or the other
    pub run_entries : LeavesOnly moment images_since old new (IsBeforeOrAfter payloads text) → LeavesOnly moment images_since old new (IsLogBeforeOrAfter (map entry_in payloads) e)
    run_entries run = record {
      later = run.later;
      each = λ image left. before_or_after image (run.each image left);
      before = λ t image le left. ⊎_elim (λ o. inl o) (λ p. inr (before_or_after image p)) (run.before t image le left);
    }

-- the same where it is told
pub run_told : {D : Type 0} (moment : D → ℕ) (images_since : D → ℕ → List ℕ → Type 0) (old new : D) (told : Option (List ℕ)) (images : List ℕ → Type 0) (payloads : List (List ℕ)) (stopped : Bool) (genesis : Header) (steps : List Stored) (text : List ℕ) (e : Entry)
    → KeepsLog told images payloads stopped genesis steps → IsEntryOf text e
    → IfSome told (λ _. LeavesOnly moment images_since old new (IsBeforeOrAfter payloads text))
    → IfSome told (λ _. LeavesOnly moment images_since old new (IsLogBeforeOrAfter (map entry_in payloads) e))
run_told moment images_since old new told images payloads stopped genesis steps text e keeps is run =
    some_if told (λ _. LeavesOnly moment images_since old new (IsLogBeforeOrAfter (map entry_in payloads) e)) (λ bs at.
    run_entries payloads steps text e is (keeps.listed bs at) moment images_since old new (if_some told (λ _. LeavesOnly moment images_since old new (IsBeforeOrAfter payloads text)) bs run at))

-- while nothing is called a crash leaves the list
pub unmoved : {D : Type 0} (moment : D → ℕ) (images_since : D → ℕ → List ℕ → Type 0) (disk : D) (told : Option (List ℕ)) (images : List ℕ → Type 0) (payloads : List (List ℕ)) (stopped : Bool) (genesis : Header) (steps : List Stored) (e : Entry)
    → KeepsLog told images payloads stopped genesis steps → ((image : List ℕ) → images_since disk (moment disk) image → images image) → stopped ≡ false
    → IfSome told (λ _. LeavesOnly moment images_since disk disk (IsLogBeforeOrAfter (map entry_in payloads) e))
unmoved moment images_since disk told images payloads stopped genesis steps e keeps only_now running =
    some_if told (λ _. LeavesOnly moment images_since disk disk (IsLogBeforeOrAfter (map entry_in payloads) e)) (λ bs at.
    record {
      later = omega arith;
      each = λ image left. inl (subst (λ (l : List (List ℕ)). StandsFor image l) (texts_are payloads (keeps.listed bs at).each) (keeps.durable running bs at image (only_now image left)));
      before = λ t image le left. inl left;
    })

-- once it is done a crash leaves the new list
pub durable_entries : (told : Option (List ℕ)) (images later : List ℕ → Type 0) (payloads new : List (List ℕ)) (stopped : Bool) (genesis : Header) (steps : List Stored) (text : List ℕ) (e : Entry)
    → KeepsLog told images payloads stopped genesis steps → IsEntryOf text e → IfSome told (λ _. new ≡ payloads ++ text ∷ []) → IfSome told (λ _. LeavesList later new)
    → IfSome told (λ _. LeavesEntries later (map entry_in payloads ++ e ∷ []))
durable_entries told images later payloads new stopped genesis steps text e keeps is list leaves =
    some_if told (λ _. LeavesEntries later (map entry_in payloads ++ e ∷ [])) (λ bs at.
    let same : new ≡ texts_of (map entry_in payloads ++ e ∷ []) = if_some told (λ _. new ≡ payloads ++ text ∷ []) bs list at ∙ after_texts payloads steps text e is (keeps.listed bs at) in
    λ image left. subst (λ (l : List (List ℕ)). StandsFor image l) same (if_some told (λ _. LeavesList later new) bs leaves at image left))
