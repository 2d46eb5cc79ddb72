-- When an index store refuses: for each call its first refusal whose case holds. `Memory` comes where a growth was
-- refused, `Device` where the disk failed.
use Rattle.std.specs.Prelude.{ℕ, ◌≡◌, ◌≢◌, ◌≤◌, ◌<◌, ◌%◌, List, [], Option, IfSome, true, false}
use Rattle.key_index_store.specs.Boundary.{IsBoundary, reservations, taken_by}
use Rattle.key_index_store.specs.Indices.{limit_of}
use Rattle.key_index_store.specs.State.{IndexState}
use Rattle.key_index_store.specs.declared.store.TheConstants.{INDICES_PER_RESERVATION}
use Rattle.key_index_store.specs.declared.error.IndexError.{IndexError}
use Rattle.key_index_store.specs.declared.error.IndexError.TheVariants.{Memory, Device, Spent, Stopped, BadEntry}
use Rattle.stable_log.specs.declared.error.JournalError.{JournalError}
use Rattle.stable_log.specs.declared.error.JournalError.TheVariants as journal

-- the number that docs/REFUSALS.md gives a refusal
abbrev pub index_error_number : IndexError → ℕ
index_error_number Memory = 1
index_error_number Device = 2
index_error_number Spent = 3
index_error_number Stopped = 4
index_error_number BadEntry = 5

-- what a refusal of the journal means to the store
abbrev pub index_error : JournalError → IndexError
index_error journal.Memory = Memory
index_error journal.Device = Device
index_error journal.Full = Spent
index_error journal.Stopped = Stopped
index_error _ = BadEntry

-- `create` on a disk that tells these bytes
abbrev pub IsIndexCreateRefusal : Option (List ℕ) → IndexError → Type 0
IsIndexCreateRefusal told Device = Unit {0}
IsIndexCreateRefusal told BadEntry = IfSome told (λ bytes. bytes ≢ [])
IsIndexCreateRefusal told _ = ⊥

-- the bytes are no journal of reservations of so many indices at most
abbrev pub HasNoBoundary : ℕ → List ℕ → Type 0
HasNoBoundary limit bytes = (boundary : ℕ) → IsBoundary limit boundary bytes → ⊥

-- `recover` on a disk that tells these bytes
abbrev pub IsIndexRecoverRefusal : ℕ → Option (List ℕ) → IndexError → Type 0
IsIndexRecoverRefusal limit told Memory = Unit {0}
IsIndexRecoverRefusal limit told Device = Unit {0}
IsIndexRecoverRefusal limit told BadEntry = IfSome told (HasNoBoundary limit)
IsIndexRecoverRefusal limit told _ = ⊥

-- the store runs, and has an index to give
abbrev pub MayGive : {D : Type 0} → IndexState D → Type 0
MayGive store = (store.stopped ≡ false) × (store.mark < limit_of store.keys)

-- and all indices that it reserved are given
abbrev pub MustReserve : {D : Type 0} → IndexState D → Type 0
MustReserve store = MayGive store × (store.mark % INDICES_PER_RESERVATION ≡ 0)

-- `next`
abbrev pub IsNextRefusal : {D : Type 0} → IndexState D → IndexError → Type 0
IsNextRefusal store Memory = MustReserve store
IsNextRefusal store Device = MustReserve store
IsNextRefusal store Stopped = store.stopped ≡ true
IsNextRefusal store Spent = (store.stopped ≡ false) × (store.mark ≡ limit_of store.keys)
IsNextRefusal store BadEntry = ⊥

-- storing one reservation more fails
abbrev pub IsReserveRefusal : IndexError → Type 0
IsReserveRefusal Memory = Unit {0}
IsReserveRefusal Device = Unit {0}
IsReserveRefusal _ = ⊥

-- reading the reservations of a journal with these payloads fails
abbrev pub IsReservationsRefusal : ℕ → Option (List ℕ) → List (List ℕ) → IndexError → Type 0
IsReservationsRefusal limit told payloads Memory = Unit {0}
IsReservationsRefusal limit told payloads Device = Unit {0}
IsReservationsRefusal limit told payloads BadEntry = IfSome told (λ _. (n : ℕ) → taken_by n ≤ limit → payloads ≢ reservations n)
IsReservationsRefusal limit told payloads _ = ⊥
