-- Keys of a new committee that are keys of the old one. Such a key would sign twice under one one-time key, from a new folder.
use Rattle.std.specs.Prelude.{◌≡◌, ◌<◌, ℕ, List}
use Rattle.blocks.specs.CommitteeReading.{key_number}
use Rattle.blocks.specs.Committees.{key_id_at, keys_of, n_of, root_at}
use Rattle.lms_tree.specs.declared.public_key.PublicKey.{PublicKey}

-- key k of replica r
abbrev pub public_key_at : List ℕ → ℕ → ℕ → PublicKey
public_key_at committee r k = record { key_id = key_id_at committee r k; root = root_at committee r k }

-- replica r has this key
abbrev pub IsKeyOfReplica : List ℕ → ℕ → PublicKey → Type 0
IsKeyOfReplica committee r key = (k : ℕ) × (k < keys_of committee r) × (public_key_at committee r k ≡ key)

-- some replica has
abbrev pub IsKeyOf : List ℕ → PublicKey → Type 0
IsKeyOf committee key = (r : ℕ) × (r < n_of committee) × IsKeyOfReplica committee r key

-- key k of replica r of the new committee is one of the old
abbrev pub IsOldKey : (old new : List ℕ) → ℕ → ℕ → Type 0
IsOldKey old new r k = IsKeyOf old (public_key_at new r k)

-- the first so many keys of replica r of the new committee are none of the old
abbrev pub AreNewKeys : (old new : List ℕ) → (r count : ℕ) → Type 0
AreNewKeys old new r count = (k : ℕ) → k < count → IsOldKey old new r k → ⊥

-- no key of the new committee is one of the old
abbrev pub HaveNoCommonKey : (old new : List ℕ) → Type 0
HaveNoCommonKey old new = (r : ℕ) → r < n_of new → AreNewKeys old new r (keys_of new r)

-- this key of replica r of the new committee is one of the old, and none before it of that replica is
pub record IsFirstOldKeyOf (old new : List ℕ) (r k : ℕ) : Type 0 where
  pub has : k < keys_of new r
  pub is_old : IsOldKey old new r k
  pub before : AreNewKeys old new r k

-- the key of this number of the new committee is one of the old, and none is of a replica before or of that replica before
pub record IsFirstOldKey (old new : List ℕ) (number : ℕ) : Type 0 where
  pub replica : ℕ
  pub key : ℕ
  pub known : replica < n_of new
  pub numbered : number ≡ key_number new replica key
  pub first_of_replica : IsFirstOldKeyOf old new replica key
  pub replicas_before : (r : ℕ) → r < replica → AreNewKeys old new r (keys_of new r)
