-- When a log in the old form is not carried over. `Memory` comes where a growth was refused, `Device` where one of the
-- two disks failed.
use Rattle.std.specs.Prelude.{ℕ, ◌≡◌, ◌≢◌, ◌⊎◌, List, [], length, Option, None, IfSome, true, false}
use Rattle.blocks.specs.Headers.{Header}
use Rattle.blocks.specs.Replay.{Durable, IsLegalEntry}
use Rattle.base_streams.specs.Counting.{HasFailed}
use Rattle.stable_log.specs.Devices.{Untouched}
use Rattle.stable_log.specs.State.{JournalState}
use Rattle.stable_log.specs.declared.disk.Disk.{Ghosts}
use Rattle.log_format.specs.EntryText.{Entry, stored_in}
use Rattle.vote_log.specs.Logs.{LogState}
use Rattle.vote_log.specs.OldEntries.{AreOldTexts, IsFirstOldIllegal, IsFirstOldUnreadable, IsOldEntryAt}
use Rattle.vote_log.specs.declared.log_error.LogError.{LogError}
use Rattle.vote_log.specs.declared.log_error.LogError.TheVariants.{Memory, Device, NotAJournal, Stopped, BadEntry, IllegalLog}

-- entry by entry these are what the payloads spell in the old form, and no others are
pub record AreCarriedOver (payloads : List (List ℕ)) (entries : List Entry) : Type 0 where
  pub spelled : AreOldTexts payloads entries
  pub only : (others : List Entry) → AreOldTexts payloads others → others ≡ entries

-- the log runs over this genesis, and has so many entries
pub record IsRunningLog {D : Type 0} (genesis : Header) (count : ℕ) (log : LogState D) : Type 0 where
  pub running : log.stopped ≡ false
  pub genesis_is : log.genesis ≡ genesis
  pub counted : length log.steps ≡ count

-- the journal was only read
pub record IsOnlyRead {D : Type 0} (disk : Ghosts D) (old new : JournalState D) : Type 0 where
  pub payloads : new.payloads ≡ old.payloads
  pub stopped : new.stopped ≡ old.stopped
  pub untouched : Untouched disk old.disk new.disk

-- a call that blames one of two disks was failed by one, and else neither failed
pub record BlamesADisk (blamed : Type 0) (old old_after new new_after : ℕ) : Type 0 where
  pub cause : blamed → HasFailed old old_after ⊎ HasFailed new new_after
  pub kept : (blamed → ⊥) → (old_after ≡ old) × (new_after ≡ new)

-- `migrate` of an old journal whose disk tells these bytes, to a disk that tells those
abbrev pub IsMigrateRefusal : {D : Type 0} → Header → Option (List ℕ) → JournalState D → Option (List ℕ) → LogError → Type 0
IsMigrateRefusal genesis told old disk Memory = old.stopped ≡ false
IsMigrateRefusal genesis told old disk Stopped = old.stopped ≡ true
IsMigrateRefusal genesis told old disk Device = old.stopped ≡ false
IsMigrateRefusal genesis told old disk NotAJournal = (old.stopped ≡ false) × IfSome disk (λ bytes. bytes ≢ [])
IsMigrateRefusal genesis told old disk (BadEntry k) =
    (old.stopped ≡ false) × IfSome disk (λ bytes. bytes ≡ []) × IfSome told (λ _. IsFirstOldUnreadable genesis old.payloads k)
IsMigrateRefusal genesis told old disk (IllegalLog k) =
    (old.stopped ≡ false) × IfSome disk (λ bytes. bytes ≡ []) × IfSome told (λ _. IsFirstOldIllegal genesis old.payloads k)
IsMigrateRefusal genesis told old disk _ = ⊥

-- ---- parts of this call

-- reading payload k fails where replay has left this
abbrev pub IsOldReadRefusal : Durable → Option (List ℕ) → List (List ℕ) → ℕ → LogError → Type 0
IsOldReadRefusal durable told payloads k Memory = Unit {0}
IsOldReadRefusal durable told payloads k Device = Unit {0}
IsOldReadRefusal durable told payloads k (BadEntry j) = (j ≡ k) × IfSome told (λ _. (e : Entry) → IsOldEntryAt payloads k e → ⊥)
IsOldReadRefusal durable told payloads k (IllegalLog j) =
    (j ≡ k) × IfSome told (λ _. (e : Entry) × IsOldEntryAt payloads k e × (IsLegalEntry durable (stored_in e).voted e.block e.parent → ⊥))
IsOldReadRefusal durable told payloads k _ = ⊥

-- an entry that was judged is not the same when it is read again: the disk tells nothing of its bytes
pub record GivesOther (told : Option (List ℕ)) (e : LogError) : Type 0 where
  pub untold : told ≡ None
  pub numbered : (k : ℕ) × ((e ≡ BadEntry k) ⊎ (e ≡ IllegalLog k))

-- reading all payloads fails
abbrev pub IsOldStepsRefusal : Header → Option (List ℕ) → List (List ℕ) → LogError → Type 0
IsOldStepsRefusal genesis told payloads Memory = Unit {0}
IsOldStepsRefusal genesis told payloads Device = Unit {0}
IsOldStepsRefusal genesis told payloads (BadEntry k) = IfSome told (λ _. IsFirstOldUnreadable genesis payloads k)
IsOldStepsRefusal genesis told payloads (IllegalLog k) = IfSome told (λ _. IsFirstOldIllegal genesis payloads k)
IsOldStepsRefusal genesis told payloads _ = ⊥
