-- When a journal refuses: for each call its first refusal whose case holds. `Memory` comes where a growth was
-- refused, `Device` where the disk failed.
use Rattle.std.specs.Prelude.{ℕ, ◌≡◌, ◌≢◌, ◌≤◌, ◌<◌, List, [], length, take, Option, IfSome, true, false}
use Rattle.base_wire.specs.declared.limits.TheConstants.{LONGEST_PAYLOAD, MOST_ENTRIES}
use Rattle.stable_log.specs.Image.{magic, StandsFor}
use Rattle.stable_log.specs.State.{JournalState}
use Rattle.stable_log.specs.declared.error.JournalError.{JournalError}
use Rattle.stable_log.specs.declared.error.JournalError.TheVariants.{Memory, Device, NotAJournal, Damaged, Full, TooLong, Stopped, NoSuchEntry}

-- the number that docs/REFUSALS.md gives a refusal
abbrev pub journal_error_number : JournalError → ℕ
journal_error_number Memory = 1
journal_error_number Device = 2
journal_error_number NotAJournal = 3
journal_error_number Damaged = 4
journal_error_number Full = 5
journal_error_number TooLong = 6
journal_error_number Stopped = 7
journal_error_number NoSuchEntry = 8

-- no list stands for the bytes, though their head is a journal's
abbrev pub IsDamaged : List ℕ → Type 0
IsDamaged bytes = (take 8 bytes ≡ magic) × ((payloads : List (List ℕ)) → StandsFor bytes payloads → ⊥)

-- `create` on a disk that tells these bytes
abbrev pub IsJournalCreateRefusal : Option (List ℕ) → JournalError → Type 0
IsJournalCreateRefusal told Device = Unit {0}
IsJournalCreateRefusal told NotAJournal = IfSome told (λ bytes. bytes ≢ [])
IsJournalCreateRefusal told _ = ⊥

-- `recover` on a disk that tells these bytes
abbrev pub IsJournalRecoverRefusal : Option (List ℕ) → JournalError → Type 0
IsJournalRecoverRefusal told Memory = Unit {0}
IsJournalRecoverRefusal told Device = Unit {0}
IsJournalRecoverRefusal told NotAJournal = IfSome told (λ bytes. take 8 bytes ≢ magic)
IsJournalRecoverRefusal told Damaged = IfSome told IsDamaged
IsJournalRecoverRefusal told _ = ⊥

-- the journal runs, has room, and the payload is not too long
abbrev pub MayAppend : {D : Type 0} → JournalState D → List ℕ → Type 0
MayAppend journal payload = (journal.stopped ≡ false) × (length journal.payloads < MOST_ENTRIES) × (length payload ≤ LONGEST_PAYLOAD)

-- `append` of a payload
abbrev pub IsJournalAppendRefusal : {D : Type 0} → JournalState D → List ℕ → JournalError → Type 0
IsJournalAppendRefusal journal payload Memory = MayAppend journal payload
IsJournalAppendRefusal journal payload Stopped = journal.stopped ≡ true
IsJournalAppendRefusal journal payload Full = (journal.stopped ≡ false) × (length journal.payloads ≡ MOST_ENTRIES)
IsJournalAppendRefusal journal payload TooLong = (journal.stopped ≡ false) × (length journal.payloads < MOST_ENTRIES) × (LONGEST_PAYLOAD < length payload)
IsJournalAppendRefusal journal payload Device = MayAppend journal payload
IsJournalAppendRefusal journal payload _ = ⊥

-- the journal runs, and has an entry k
abbrev pub MayRead : {D : Type 0} → JournalState D → ℕ → Type 0
MayRead journal k = (journal.stopped ≡ false) × (k < length journal.payloads)

-- `entry` k
abbrev pub IsJournalEntryRefusal : {D : Type 0} → JournalState D → ℕ → JournalError → Type 0
IsJournalEntryRefusal journal k Memory = MayRead journal k
IsJournalEntryRefusal journal k Stopped = journal.stopped ≡ true
IsJournalEntryRefusal journal k NoSuchEntry = (journal.stopped ≡ false) × (length journal.payloads ≤ k)
IsJournalEntryRefusal journal k Device = MayRead journal k
IsJournalEntryRefusal journal k _ = ⊥

-- `entry_into` k, which takes no memory
abbrev pub IsJournalEntryIntoRefusal : {D : Type 0} → JournalState D → ℕ → JournalError → Type 0
IsJournalEntryIntoRefusal journal k Stopped = journal.stopped ≡ true
IsJournalEntryIntoRefusal journal k NoSuchEntry = (journal.stopped ≡ false) × (length journal.payloads ≤ k)
IsJournalEntryIntoRefusal journal k Device = MayRead journal k
IsJournalEntryIntoRefusal journal k _ = ⊥
