-- What the calls of a log keep.
use Rattle.std.proofs.Common.{Bool, ◌≡◌, ℕ, zero, suc, ◌<◌, ◌≤◌, List, [], ◌∷◌, length, Option, Some, IfSome, refl, sym, ap, subst, ◌∙◌, arith}
use Rattle.std.specs.Prelude.{map, slice_get}
use Rattle.std.specs.List.{All}
use Rattle.std.proofs.lemmas.List.Elements.{All-head, All-tail}
use Rattle.blocks.specs.Headers.{Header}
use Rattle.blocks.specs.Replica.{Stored}
use Rattle.stable_log.proofs.Told.{some_if, if_some}
use Rattle.stable_log.specs.Crash.{NoNew}
use Rattle.stable_log.specs.Image.{StandsFor}
use Rattle.stable_log.specs.State.{JournalState}
use Rattle.log_format.specs.EntryText.{Entry, IsEntry, entry_text}
use Rattle.log_format.specs.EntryReading.{entry_in}
use Rattle.vote_log.specs.Logs.{AreListed, AreTexts, IsEntryAt, IsEntryText, KeepsLog, LogState, StandsForEntries, texts_of}
use Rattle.vote_log.specs.LogRefusals.{IsLogEntryRefusal, IsEntryReadRefusal}
use Rattle.vote_log.specs.declared.log_error.LogError.{LogError}
use Rattle.vote_log.specs.declared.log_error.LogError.TheVariants.{Memory, Device, NotAJournal, Damaged, Full, Stopped, NoSuchEntry, BadEntry, IllegalLog}
use Rattle.log_format.proofs.EntryLaws.{entry_again}
use Rattle.vote_log.proofs.LogLaws.{listed_of, texts_are}

-- ---- entries of payloads

get-map : (xs : List (List ℕ)) (k : ℕ) (x : List ℕ) → slice_get xs k ≡ Some x → slice_get (map entry_in xs) k ≡ Some (entry_in x)
get-map [] k x is = absurd (cc is)
get-map (y ∷ ys) zero x is = let same : y ≡ x = cc is in ap (λ (t : List ℕ). Some (entry_in t)) same
get-map (y ∷ ys) (suc k) x is = get-map ys k x is

-- the entry at a payload's place
pub entry_at_is : (payloads : List (List ℕ)) (k : ℕ) (e : Entry) → IsEntryAt payloads k e → slice_get (map entry_in payloads) k ≡ Some e
entry_at_is payloads k e here = get-map payloads k here.text here.at ∙ ap (λ (x : Entry). Some x) (entry_again here.text e here.entry).1

get-text : (xs : List (List ℕ)) (k : ℕ) → k < length xs → All IsEntryText xs → (e : Entry) × IsEntryAt xs k e
get-text [] k below each = absurd (omega arith)
get-text (y ∷ ys) zero below each = (entry_in y, record { text = y; at = refl; entry = All-head IsEntryText y ys each })
get-text (y ∷ ys) (suc k) below each =
    let rest = get-text ys k (omega arith) (All-tail IsEntryText y ys each) in
    (rest.0, record { text = rest.1.text; at = rest.1.at; entry = rest.1.entry })

-- a telling disk gives an entry that can be read
pub entry_fault : {D : Type 0} (told : Option (List ℕ)) (journal : JournalState D) (log : LogState D) (k : ℕ) (e : LogError) → log.stopped ≡ journal.stopped → length journal.payloads ≡ length log.steps
    → ((bs : List ℕ) → told ≡ Some bs → AreTexts journal.payloads log.steps) → IsEntryReadRefusal told journal k e → IsLogEntryRefusal told log k e
entry_fault told journal log k Memory same counted listed fault = (same ∙ fault.0, subst (λ (n : ℕ). k < n) counted fault.1)
entry_fault told journal log k Device same counted listed fault = (same ∙ fault.0, subst (λ (n : ℕ). k < n) counted fault.1)
entry_fault told journal log k Stopped same counted listed fault = same ∙ fault
entry_fault told journal log k NoSuchEntry same counted listed fault = (same ∙ fault.0, subst (λ (n : ℕ). n ≤ k) counted fault.1)
entry_fault told journal log k (BadEntry j) same counted listed fault = (
  (same ∙ fault.0.0, subst (λ (n : ℕ). k < n) counted fault.0.1),
  fault.1,
  some_if told (λ _. ⊥) (λ bs is.
      let found = get-text journal.payloads k fault.0.1 (listed bs is).each in
      if_some told (λ _. (e : Entry) → IsEntryAt journal.payloads k e → ⊥) bs fault.2 is found.0 found.1),
)
entry_fault told journal log k NotAJournal same counted listed fault = absurd fault
entry_fault told journal log k Damaged same counted listed fault = absurd fault
entry_fault told journal log k Full same counted listed fault = absurd fault
entry_fault told journal log k (IllegalLog j) same counted listed fault = absurd fault

-- a call that writes nothing keeps the log
pub kept_unwritten : (told now : Option (List ℕ)) (images later : List ℕ → Type 0) (payloads new : List (List ℕ)) (stopped still : Bool) (genesis : Header) (steps : List Stored)
    → KeepsLog told images payloads stopped genesis steps → now ≡ told → NoNew images later → new ≡ payloads → still ≡ stopped → KeepsLog now later new still genesis steps
kept_unwritten told now images later payloads new stopped still genesis steps keeps same no_new list status = record {
  root = keeps.root;
  legal = keeps.legal;
  counted = ap length list ∙ keeps.counted;
  listed = λ bs is. subst (λ (l : List (List ℕ)). AreTexts l steps) (sym list) (keeps.listed bs (sym same ∙ is));
  durable = λ running bs is image left. subst (λ (l : List (List ℕ)). StandsFor image l) (sym list) (keeps.durable (sym status ∙ running) bs (sym same ∙ is) image (no_new image left));
}

-- ---- recovery

-- entries are those of their texts
read_back : (entries : List Entry) → All IsEntry entries → map entry_in (texts_of entries) ≡ entries
read_back [] each = refl
read_back (e ∷ es) each =
    let here = (entry_again (entry_text e) e (record { entry = All-head IsEntry e es each; text = refl })).1 in
    ap (λ (x : Entry). x ∷ map entry_in (texts_of es)) here ∙ ap (λ (l : List Entry). e ∷ l) (read_back es (All-tail IsEntry e es each))

module _ (told : Option (List ℕ)) (payloads new : List (List ℕ)) (steps : List Stored) (same : new ≡ payloads) (texts : (bs : List ℕ) → told ≡ Some bs → AreTexts payloads steps) where
  texts_now : (bs : List ℕ) → told ≡ Some bs → AreTexts new steps
  texts_now bs is = subst (λ (l : List (List ℕ)). AreTexts l steps) (sym same) (texts bs is)

  pub recovered_listed : IfSome told (λ _. AreListed (map entry_in new) steps)
  recovered_listed = some_if told (λ _. AreListed (map entry_in new) steps) (λ bs is. listed_of new steps (texts_now bs is))

  pub recovered_ok : IfSome told (λ bs. StandsFor bs payloads) → IfSome told (λ bs. StandsForEntries bs (map entry_in new))
  recovered_ok ok = some_if told (λ bs. StandsForEntries bs (map entry_in new)) (λ bs is.
      let texts : payloads ≡ texts_of (map entry_in new) = sym same ∙ texts_are new (texts_now bs is).each in
      subst (λ (l : List (List ℕ)). StandsFor bs l) texts (if_some told (λ (x : List ℕ). StandsFor x payloads) bs ok is))

  pub recovered_only : IfSome told (λ bs. (others : List (List ℕ)) → StandsFor bs others → others ≡ payloads)
      → IfSome told (λ bs. (entries : List Entry) → All IsEntry entries → StandsForEntries bs entries → entries ≡ map entry_in new)
  recovered_only only = some_if told (λ bs. (entries : List Entry) → All IsEntry entries → StandsForEntries bs entries → entries ≡ map entry_in new) (λ bs is entries each stands.
      let one : texts_of entries ≡ payloads = if_some told (λ (x : List ℕ). (others : List (List ℕ)) → StandsFor x others → others ≡ payloads) bs only is (texts_of entries) stands in
      sym (read_back entries each) ∙ ap (map entry_in) (one ∙ sym same))
