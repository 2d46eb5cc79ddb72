-- What a slot of a new committee is beside the committee before it, by a renewal.
use Rattle.std.specs.Prelude.{◌≡◌, ◌<◌, ℕ, List, IsSomeAnd, false, true}
use Rattle.blocks.specs.Committees.{n_of, keys_of}
use Rattle.handover_renewals.specs.Renewals.{Renewal}
use Rattle.handover_renewals.specs.Renewing.{AreBound, HasCount, IsGoodFor, signature_of}
use Rattle.handover_renewals.specs.Slots.{is_kept}
use Rattle.handover_renewals.specs.declared.kinds.SlotKind.{SlotKind}
use Rattle.handover_renewals.specs.declared.kinds.SlotKind.TheVariants.{Kept, New, ByHand}

-- the old committee has the slot too, with as many keys, which are the same
pub record IsKeptSlot (old new : List ℕ) (s : ℕ) : Type 0 where
  pub known : s < n_of old
  pub count : HasCount old new s
  pub same : is_kept old new s ≡ true

-- .. or not the same, but with ids that are bound to their places, and with a good signature
pub record IsRenewedSlot (old new : List ℕ) (r : Renewal) (s : ℕ) : Type 0 where
  pub known : s < n_of old
  pub count : HasCount old new s
  pub other : is_kept old new s ≡ false
  pub bound : AreBound old new s (keys_of old s)
  pub signed : IsSomeAnd (signature_of r s) (IsGoodFor old new s)

-- a slot that the new committee has is one of these, or neither
abbrev pub IsSlotKind : SlotKind → (old new : List ℕ) → Renewal → ℕ → Type 0
IsSlotKind Kept old new r s = IsKeptSlot old new s
IsSlotKind New old new r s = IsRenewedSlot old new r s
IsSlotKind ByHand old new r s = (IsKeptSlot old new s → ⊥) × (IsRenewedSlot old new r s → ⊥)
