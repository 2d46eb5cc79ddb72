-- When the log of a chain that was left may go.
use Rattle.std.specs.Prelude.{◌≡◌, ℕ, List}
use Rattle.blocks.specs.Genesis.{chain_id_of}
use Rattle.handover_folder.specs.Standing.{HasKeys}

-- no replica has the same keys in both committees
abbrev pub HasNoKeptSlot : (before after : List ℕ) → Type 0
HasNoKeptSlot before after = (replica : ℕ) → HasKeys before after replica → ⊥

-- the chain of a committee, of whose keys none is in use at present, and none of the committee that followed it: a replica that
-- endorsed its keys in that chain and stayed away since would have those
pub record IsUnasked (committee after present chain : List ℕ) : Type 0 where
  pub left_chain : chain ≡ chain_id_of committee
  pub left : HasNoKeptSlot committee present
  pub followed : HasNoKeptSlot after present
