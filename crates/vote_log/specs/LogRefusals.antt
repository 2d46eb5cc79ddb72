-- When a log refuses: for each call its first refusal whose case holds. `Memory` comes where a growth was
-- refused, `Device` where the disk failed.
use Rattle.std.specs.Prelude.{ℕ, ◌≡◌, ◌≢◌, ◌≤◌, ◌<◌, List, [], length, take, Option, IfSome, true, false}
use Rattle.blocks.specs.Headers.{Header}
use Rattle.base_wire.specs.declared.limits.TheConstants.{MOST_ENTRIES}
use Rattle.stable_log.specs.Image.{magic, StandsFor}
use Rattle.stable_log.specs.State.{JournalState}
use Rattle.stable_log.specs.Refusals.{IsDamaged, MayRead}
use Rattle.stable_log.specs.declared.error.JournalError.{JournalError}
use Rattle.stable_log.specs.declared.error.JournalError.TheVariants as journal
use Rattle.log_format.specs.EntryText.{Entry}
use Rattle.vote_log.specs.Logs.{LogState, IsEntryAt, IsFirstUnreadable, IsFirstIllegal}
use Rattle.vote_log.specs.declared.log_error.LogError.{LogError}
use Rattle.vote_log.specs.declared.log_error.LogError.TheVariants.{Memory, Device, NotAJournal, Damaged, Full, Stopped, NoSuchEntry, BadEntry, IllegalLog}

-- the number that docs/REFUSALS.md gives a refusal
abbrev pub log_error_number : LogError → ℕ
log_error_number Memory = 1
log_error_number Device = 2
log_error_number NotAJournal = 3
log_error_number Damaged = 4
log_error_number Full = 5
log_error_number Stopped = 7
log_error_number NoSuchEntry = 8
log_error_number (BadEntry k) = 9
log_error_number (IllegalLog k) = 10

-- what a refusal of the journal means to the log; no entry is too long
abbrev pub log_error : JournalError → LogError
log_error journal.Memory = Memory
log_error journal.Device = Device
log_error journal.NotAJournal = NotAJournal
log_error journal.Damaged = Damaged
log_error journal.Full = Full
log_error journal.TooLong = Full
log_error journal.Stopped = Stopped
log_error journal.NoSuchEntry = NoSuchEntry

-- `create` on a disk that tells these bytes
abbrev pub IsLogCreateRefusal : Option (List ℕ) → LogError → Type 0
IsLogCreateRefusal told Device = Unit {0}
IsLogCreateRefusal told NotAJournal = IfSome told (λ bytes. bytes ≢ [])
IsLogCreateRefusal told _ = ⊥

-- the bytes stand for payloads of which k is the least that is no entry or not legal
abbrev pub IsUnreadableAt : Header → ℕ → List ℕ → Type 0
IsUnreadableAt genesis k bytes = (payloads : List (List ℕ)) × StandsFor bytes payloads × IsFirstUnreadable genesis payloads k

abbrev pub IsIllegalAt : Header → ℕ → List ℕ → Type 0
IsIllegalAt genesis k bytes = (payloads : List (List ℕ)) × StandsFor bytes payloads × IsFirstIllegal genesis payloads k

-- `recover` on a disk that tells these bytes
abbrev pub IsLogRecoverRefusal : Header → Option (List ℕ) → LogError → Type 0
IsLogRecoverRefusal genesis told Memory = Unit {0}
IsLogRecoverRefusal genesis told Device = Unit {0}
IsLogRecoverRefusal genesis told NotAJournal = IfSome told (λ bytes. take 8 bytes ≢ magic)
IsLogRecoverRefusal genesis told Damaged = IfSome told IsDamaged
IsLogRecoverRefusal genesis told (BadEntry k) = IfSome told (IsUnreadableAt genesis k)
IsLogRecoverRefusal genesis told (IllegalLog k) = IfSome told (IsIllegalAt genesis k)
IsLogRecoverRefusal genesis told _ = ⊥

-- the log runs, and has room
abbrev pub LogMayAppend : {D : Type 0} → LogState D → Type 0
LogMayAppend log = (log.stopped ≡ false) × (length log.steps < MOST_ENTRIES)

-- `append`
abbrev pub IsLogAppendRefusal : {D : Type 0} → LogState D → LogError → Type 0
IsLogAppendRefusal log Memory = LogMayAppend log
IsLogAppendRefusal log Device = LogMayAppend log
IsLogAppendRefusal log Full = (log.stopped ≡ false) × (length log.steps ≡ MOST_ENTRIES)
IsLogAppendRefusal log Stopped = log.stopped ≡ true
IsLogAppendRefusal log _ = ⊥

-- the log runs, and has an entry k
abbrev pub LogMayRead : {D : Type 0} → LogState D → ℕ → Type 0
LogMayRead log k = (log.stopped ≡ false) × (k < length log.steps)

-- `entry` k on a disk that tells these bytes or none; only one that tells none can give other bytes than
-- were written
abbrev pub IsLogEntryRefusal : {D : Type 0} → Option (List ℕ) → LogState D → ℕ → LogError → Type 0
IsLogEntryRefusal told log k Memory = LogMayRead log k
IsLogEntryRefusal told log k Device = LogMayRead log k
IsLogEntryRefusal told log k Stopped = log.stopped ≡ true
IsLogEntryRefusal told log k NoSuchEntry = (log.stopped ≡ false) × (length log.steps ≤ k)
IsLogEntryRefusal told log k (BadEntry j) = LogMayRead log k × (j ≡ k) × IfSome told (λ _. ⊥)
IsLogEntryRefusal told log k _ = ⊥

-- ---- parts of these calls

-- reading entry k of a journal fails
abbrev pub IsEntryReadRefusal : {D : Type 0} → Option (List ℕ) → JournalState D → ℕ → LogError → Type 0
IsEntryReadRefusal told journal k Memory = MayRead journal k
IsEntryReadRefusal told journal k Device = MayRead journal k
IsEntryReadRefusal told journal k Stopped = journal.stopped ≡ true
IsEntryReadRefusal told journal k NoSuchEntry = (journal.stopped ≡ false) × (length journal.payloads ≤ k)
IsEntryReadRefusal told journal k (BadEntry j) =
    MayRead journal k × (j ≡ k) × IfSome told (λ _. (e : Entry) → IsEntryAt journal.payloads k e → ⊥)
IsEntryReadRefusal told journal k _ = ⊥

-- reading all entries fails
abbrev pub IsStepsRefusal : Header → Option (List ℕ) → List (List ℕ) → LogError → Type 0
IsStepsRefusal genesis told payloads Memory = Unit {0}
IsStepsRefusal genesis told payloads Device = Unit {0}
IsStepsRefusal genesis told payloads (BadEntry k) = IfSome told (λ _. IsFirstUnreadable genesis payloads k)
IsStepsRefusal genesis told payloads (IllegalLog k) = IfSome told (λ _. IsFirstIllegal genesis payloads k)
IsStepsRefusal genesis told payloads _ = ⊥
