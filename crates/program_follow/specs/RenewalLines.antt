-- What a renewal says of the new committee, and how it is told.
use Rattle.std.specs.Prelude.{◌≡◌, ◌⊎◌, ◌++◌, ℕ, zero, suc, List, [], Option, Some, None, ⊤, codes, decimal}
use Rattle.blocks.specs.Committees.{n_of}
use Rattle.blocks.specs.Weights.{total_of}
use Rattle.handover_renewals.specs.RenewalRefusals.{IsRenewalRefusal, renewal_refusal_name, renewal_refusal_number, slot_refused}
use Rattle.handover_renewals.specs.Renewals.{Renewal, IsRenewal}
use Rattle.handover_renewals.specs.Renewing.{Renews}
use Rattle.handover_renewals.specs.SlotKinds.{IsSlotKind}
use Rattle.handover_renewals.specs.Slots.{new_weight}
use Rattle.handover_renewals.specs.declared.judging.RenewalRefusal.{RenewalRefusal}
use Rattle.handover_renewals.specs.declared.kinds.SlotKind.{SlotKind}
use Rattle.handover_renewals.specs.declared.kinds.SlotKind.TheVariants.{Kept, New, ByHand}

-- a renewal just where there is a path of one
abbrev pub IsReadAt : Option (List ℕ) → Option Renewal → Type 0
IsReadAt None None = ⊤
IsReadAt (Some path) (Some r) = IsRenewal r
IsReadAt path r = ⊥

-- ---- each slot

abbrev pub kind_text : SlotKind → List ℕ
kind_text New = codes "new"
kind_text Kept = codes "kept"
kind_text ByHand = codes "by hand"

-- "slot S KIND"
unfoldable pub slot_line : ℕ → SlotKind → List ℕ
slot_line s kind = codes "slot " ++ decimal s ++ codes " " ++ kind_text kind ++ codes "\n"

-- the lines of the first n slots of the new committee
abbrev pub AreSlotLines : (old new : List ℕ) → Renewal → ℕ → List ℕ → Type 0
AreSlotLines old new r zero text = text ≡ []
AreSlotLines old new r (suc n) text =
    (before : List ℕ) × (kind : SlotKind) × AreSlotLines old new r n before × IsSlotKind kind old new r n × (text ≡ before ++ slot_line n kind)

-- ---- both committees

-- "renews new S of W"
unfoldable pub renews_line : (weight total : ℕ) → List ℕ
renews_line weight total = codes "renews new " ++ decimal weight ++ codes " of " ++ decimal total ++ codes "\n"

unfoldable pub slot_text : Option ℕ → List ℕ
slot_text (Some slot) = codes " " ++ decimal slot
slot_text None = []

-- "N NAME"
unfoldable pub named_text : RenewalRefusal → List ℕ
named_text refusal = decimal (renewal_refusal_number refusal) ++ codes " " ++ renewal_refusal_name refusal

-- "renews not: N NAME SLOT"
unfoldable pub renews_not_line : RenewalRefusal → Option ℕ → List ℕ
renews_not_line refusal slot = codes "renews not: " ++ named_text refusal ++ slot_text slot ++ codes "\n"

-- that the new committee renews the old one, with how much its new slots weigh, or why it does not
abbrev pub IsRenewsLine : (old new : List ℕ) → Renewal → List ℕ → Type 0
IsRenewsLine old new r text =
    (Renews old new r × (text ≡ renews_line (new_weight old new) (total_of old)))
    ⊎ ((refusal : RenewalRefusal) × IsRenewalRefusal refusal old new r × (text ≡ renews_not_line refusal (slot_refused refusal)))

-- ---- all lines

pub record AreRenewalLines (old new : List ℕ) (r : Renewal) (text : List ℕ) : Type 0 where
  pub slots : List ℕ
  pub are_slots : AreSlotLines old new r (n_of new) slots
  pub line : List ℕ
  pub is_line : IsRenewsLine old new r line
  pub told : text ≡ slots ++ line

-- none where there is no renewal
abbrev pub AreLinesOn : (old new : List ℕ) → Option Renewal → List ℕ → Type 0
AreLinesOn old new None text = text ≡ []
AreLinesOn old new (Some r) text = AreRenewalLines old new r text
