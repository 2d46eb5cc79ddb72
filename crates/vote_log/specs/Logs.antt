-- Logs: lists of entries that are legal one after the other, and the bytes that stand for them, as
-- docs/FORMATS.md, "Journal file" and "Log entry", lay them out.
use Rattle.std.specs.Prelude.{◌≡◌, ◌<◌, ◌⊎◌, ◌↔◌, ◌++◌, ℕ, List, [], ◌∷◌, Bool, false, Option, Some, IfSome, IsSome, length, map, slice_get, take}
use Rattle.std.specs.List.{All}
use Rattle.blocks.specs.Headers.{Header, IsGenesis}
use Rattle.blocks.specs.Replica.{Stored}
use Rattle.blocks.specs.Replay.{IsLegal}
use Rattle.stable_log.specs.Image.{StandsFor, LeavesList}
use Rattle.log_format.specs.EntryText.{Entry, IsEntry, IsEntryOf, entry_text, stored_in}
use Rattle.log_format.specs.EntryReading.{entry_in}

-- ---- logs

-- what contracts see of a log: its disk, its genesis, its entries in order (as the disk tells them), what
-- they say of votes and raised locks, and whether it is stopped
pub record LogState (D : Type 0) : Type 0 where
  pub disk : D
  pub genesis : Header
  pub entries : List Entry
  pub steps : List Stored
  pub stopped : Bool

abbrev pub texts_of : List Entry → List (List ℕ)
texts_of entries = map entry_text entries

abbrev pub steps_of : List Entry → List Stored
steps_of entries = map stored_in entries

-- entries that have bytes, legal one after the other
pub record IsLog (genesis : Header) (entries : List Entry) : Type 0 where
  pub each : All IsEntry entries
  pub legal : IsLegal genesis (steps_of entries)

-- these are well-formed entries, and the steps are theirs
pub record AreListed (entries : List Entry) (steps : List Stored) : Type 0 where
  pub each : All IsEntry entries
  pub same : steps ≡ steps_of entries

-- ---- the bytes of a log

-- the bytes of a journal stand for these entries
abbrev pub StandsForEntries : List ℕ → List Entry → Type 0
StandsForEntries image entries = StandsFor image (texts_of entries)

-- whatever a crash leaves stands for these entries
abbrev pub LeavesEntries : (List ℕ → Type 0) → List Entry → Type 0
LeavesEntries images entries = LeavesList images (texts_of entries)

-- an image of the list from before an append, or of that list with the new entry
abbrev pub IsLogBeforeOrAfter : List Entry → Entry → List ℕ → Type 0
IsLogBeforeOrAfter entries entry image = StandsForEntries image entries ⊎ StandsForEntries image (entries ++ entry ∷ [])

-- the log's list is the old one and this entry
pub record AddsEntry {D : Type 0} (bytes : D → Option (List ℕ)) (old new : LogState D) (e : Entry) : Type 0 where
  pub steps : new.steps ≡ old.steps ++ stored_in e ∷ []
  pub entries : IfSome (bytes old.disk) (λ _. new.entries ≡ old.entries ++ e ∷ [])

-- the log has the same genesis, and its disk tells its bytes if it did
pub record IsLikeLog {D : Type 0} (bytes : D → Option (List ℕ)) (old new : LogState D) : Type 0 where
  pub genesis : new.genesis ≡ old.genesis
  pub tells : IsSome (bytes new.disk) ↔ IsSome (bytes old.disk)

-- payload k is the text of this entry
pub record IsEntryAt (payloads : List (List ℕ)) (k : ℕ) (e : Entry) : Type 0 where
  pub text : List ℕ
  pub at : slice_get payloads k ≡ Some text
  pub entry : IsEntryOf text e

-- the first k payloads are the texts of these entries, which are a log
pub record IsLogUpTo (genesis : Header) (payloads : List (List ℕ)) (k : ℕ) (entries : List Entry) : Type 0 where
  pub place : k < length payloads
  pub texts : take k payloads ≡ texts_of entries
  pub log : IsLog genesis entries

-- payload k is the least that is not readable or not legal, and is not readable
pub record IsFirstUnreadable (genesis : Header) (payloads : List (List ℕ)) (k : ℕ) : Type 0 where
  pub entries : List Entry
  pub before : IsLogUpTo genesis payloads k entries
  pub unreadable : (e : Entry) → IsEntryAt payloads k e → ⊥

-- .. and is not legal
pub record IsFirstIllegal (genesis : Header) (payloads : List (List ℕ)) (k : ℕ) : Type 0 where
  pub entries : List Entry
  pub before : IsLogUpTo genesis payloads k entries
  pub entry : Entry
  pub here : IsEntryAt payloads k entry
  pub illegal : IsLegal genesis (steps_of (entries ++ entry ∷ [])) → ⊥

-- ---- what a log keeps

-- the text of some entry
abbrev pub IsEntryText : List ℕ → Type 0
IsEntryText text = IsEntryOf text (entry_in text)

-- each payload is an entry, and these are the steps of them all
pub record AreTexts (payloads : List (List ℕ)) (steps : List Stored) : Type 0 where
  pub each : All IsEntryText payloads
  pub same : steps ≡ steps_of (map entry_in payloads)

-- its steps are legal; where the disk tells its bytes they are those of its payloads, each an entry, and
-- while it is not stopped a crash leaves just these
pub record KeepsLog (told : Option (List ℕ)) (images : List ℕ → Type 0) (payloads : List (List ℕ)) (stopped : Bool) (genesis : Header) (steps : List Stored) : Type 0 where
  pub root : IsGenesis genesis
  pub legal : IsLegal genesis steps
  pub counted : length payloads ≡ length steps
  pub listed : (bytes : List ℕ) → told ≡ Some bytes → AreTexts payloads steps
  pub durable : stopped ≡ false → (bytes : List ℕ) → told ≡ Some bytes → LeavesList images payloads
