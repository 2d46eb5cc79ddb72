-- Committees of which each renews the one before it.
use Rattle.std.specs.Prelude.{◌≡◌, ◌⊎◌, ◌<◌, ℕ, Bool, List, [], ◌∷◌}
use Rattle.blocks.specs.Committees.{IsCommittee, n_of, weight_at}
use Rattle.blocks.specs.Weights.{quorum_of, weight_of}
use Rattle.handover_renewals.specs.Renewals.{Renewal}
use Rattle.handover_renewals.specs.Renewing.{Renews}
use Rattle.handover_renewals.specs.RenewalLaws.{IsSignedFor}
use Rattle.handover_renewals.specs.Slots.{slot_keys}

-- one committee more: its file, and the renewal by which it renews the one before
pub record Next : Type 0 where
  pub file : List ℕ
  pub renewal : Renewal

-- it is a committee, and renews this one
pub record IsNext (old : List ℕ) (next : Next) : Type 0 where
  pub committee : IsCommittee next.file
  pub renews : Renews old next.file next.renewal

-- each of these committees renews the one before it, and the first of them this one
abbrev pub AreRenewed : List ℕ → List Next → Type 0
AreRenewed first [] = Unit {0}
AreRenewed first (next ∷ later) = IsNext first next × AreRenewed next.file later

-- the last of all of them
abbrev pub last_of : List ℕ → List Next → List ℕ
last_of first [] = first
last_of first (next ∷ later) = last_of next.file later

-- a slot has the keys that it had before, or such as one of those signed for
abbrev pub IsHandedOn : List ℕ → List ℕ → ℕ → Type 0
IsHandedOn old new s = (slot_keys new s ≡ slot_keys old s) ⊎ IsSignedFor old new s

-- .. from each of these committees to the one behind it
abbrev pub IsHandedOnThrough : List ℕ → List Next → ℕ → Type 0
IsHandedOnThrough first [] s = Unit {0}
IsHandedOnThrough first (next ∷ later) s = IsHandedOn first next.file s × IsHandedOnThrough next.file later s

-- ---- the laws

abbrev pub EachSlotIsHandedOn : Type 0
EachSlotIsHandedOn = (first : List ℕ) (later : List Next) → IsCommittee first → AreRenewed first later → (s : ℕ) → s < n_of first → IsHandedOnThrough first later s

-- the last committee has as many replicas
abbrev pub TheLastHasAsMany : Type 0
TheLastHasAsMany = (first : List ℕ) (later : List Next) → AreRenewed first later → n_of (last_of first later) ≡ n_of first

-- .. each set of them weighs the same in it
abbrev pub EachSetWeighsTheSameInTheLast : Type 0
EachSetWeighsTheSameInTheLast =
    (first : List ℕ) (later : List Next) → AreRenewed first later
    → (passes : ℕ → Bool) → weight_of (weight_at (last_of first later)) passes (n_of (last_of first later)) ≡ weight_of (weight_at first) passes (n_of first)

-- .. and so does a quorum
abbrev pub AQuorumIsTheSameInTheLast : Type 0
AQuorumIsTheSameInTheLast = (first : List ℕ) (later : List Next) → AreRenewed first later → quorum_of (last_of first later) ≡ quorum_of first
