-- Which blocks that hand over to another committee, or begin a chain, may be voted for.
use Rattle.std.specs.Prelude.{◌≡◌, ◌≢◌, ◌⊎◌, ℕ, Bool, List, Option, Some, IfSome}
use Rattle.blocks.specs.Committees.{IsCommittee}
use Rattle.blocks.specs.Headers.{Header}
use Rattle.handover_blocks.specs.Handovers.{IsHandover, handover_payload}
use Rattle.handover_renewals.specs.Renewals.{Renewal}
use Rattle.handover_renewals.specs.Renewing.{Renews}

-- what may be told of the committee that comes next: the payload of the block that hands over to it, or that none is approved; the
-- payload of the one first block, in a chain that was gone over to; whether indices and room are spared for later; that the replica
-- has its keys in the committee of this file; that it endorsed its next keys by these bytes; and that it is gone over by this
-- handover block to this file's committee, which alone `say` ensures
pub record Telling : Type 1 where
  pub approves : Option (List ℕ) → Type 0
  pub begins : Option (List ℕ)
  pub spares : Bool
  pub has_keys : List ℕ → Type 0
  pub endorsed : List ℕ → Type 0
  pub over : (handover file : List ℕ) → Type 0

-- ---- which may come

-- the payload names a file of a committee that renews this one
pub record IsRenewedTo (committee payload : List ℕ) : Type 0 where
  pub file : List ℕ
  pub renewal : Renewal
  pub whole : IsCommittee file
  pub renews : Renews committee file renewal
  pub names : payload ≡ handover_payload file

-- where there is one first block, a block on genesis has its payload
abbrev pub MayBegin : Option (List ℕ) → Header → Type 0
MayBegin begins b = IfSome begins (λ payload. b.parent_view ≡ 0 → b.payload ≡ payload)

-- the payload was told, or names a committee that was shown to renew this one
abbrev pub MayFollow : List ℕ → Telling → List ℕ → Type 0
MayFollow committee tells payload = tells.approves (Some payload) ⊎ IsRenewedTo committee payload

-- a block that hands over has such a payload, and one on genesis may begin the chain
pub record IsApproved (committee : List ℕ) (tells : Telling) (b : Header) : Type 0 where
  pub told : IsHandover b → MayFollow committee tells b.payload
  pub begins : MayBegin tells.begins b

-- the block hands over, and another payload was told, or that no committee is approved
pub record IsUnapproved (tells : Telling) (b : Header) : Type 0 where
  pub marked : IsHandover b
  pub told : Option (List ℕ)
  pub may : tells.approves told
  pub other : told ≢ Some b.payload

-- the block stands on genesis, and has another payload than the one first block
pub record IsOtherFirst (begins : Option (List ℕ)) (b : Header) : Type 0 where
  pub payload : List ℕ
  pub first : begins ≡ Some payload
  pub on_genesis : b.parent_view ≡ 0
  pub other : b.payload ≢ payload

abbrev pub IsWithheld : Telling → Header → Type 0
IsWithheld tells b = IsUnapproved tells b ⊎ IsOtherFirst tells.begins b
