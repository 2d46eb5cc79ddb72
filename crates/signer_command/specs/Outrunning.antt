-- Endorsements under one-time keys that an index store did not reserve.
use Rattle.std.specs.Prelude.{ℕ, ◌+◌, ◌*◌, ◌≤◌, List}
use Rattle.base_wire.specs.Pieces.{number_at}
use Rattle.handover_keys.specs.Endorsements.{IsGoodEndorsement, signature_in, signing_key_in}
use Rattle.key_index_store.specs.declared.store.TheConstants.{INDICES}

-- the index of an endorsement: that of its one-time key, behind those of the keys before; a signature begins with it
abbrev pub index_of : List ℕ → ℕ
index_of bytes = INDICES * signing_key_in bytes + number_at 4 (signature_in bytes) 0

-- the bytes are a good endorsement, at an index that is not below the boundary
pub record EndorsementOutruns (committee : List ℕ) (boundary : ℕ) (bytes : List ℕ) : Type 0 where
  pub good : IsGoodEndorsement committee bytes
  pub from : boundary ≤ index_of bytes
