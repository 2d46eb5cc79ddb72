-- Where a replica's keys are.
use Rattle.std.specs.Prelude.{◌≡◌, ◌<◌, ℕ, List}
use Rattle.blocks.specs.Committees.{key_id_at, keys_of, n_of, root_at}

-- key k of a replica is the same in both committees
pub record IsSameKey (before after : List ℕ) (replica k : ℕ) : Type 0 where
  pub key_id : key_id_at before replica k ≡ key_id_at after replica k
  pub root : root_at before replica k ≡ root_at after replica k

-- both committees have the replica, with the same keys in the same order
pub record HasKeys (before after : List ℕ) (replica : ℕ) : Type 0 where
  pub known : replica < n_of before
  pub still : replica < n_of after
  pub as_many : keys_of before replica ≡ keys_of after replica
  pub each : (k : ℕ) → k < keys_of before replica → IsSameKey before after replica k
