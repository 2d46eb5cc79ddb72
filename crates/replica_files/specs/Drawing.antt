-- Which keys a replica draws for the committee that comes behind another.
use Rattle.std.specs.Prelude.{◌≡◌, ℕ, zero, suc, List, [], ◌∷◌, ◌++◌, length, map}
use Rattle.std.specs.List.{AllZip}
use Rattle.lmots.specs.declared.keys.PrivateSeed.{PrivateSeed}
use Rattle.handover_keys.specs.BoundIds.{bound_id}
use Rattle.replica_files.specs.KeySets.{public_key}
use Rattle.replica_files.specs.declared.behind.Behind.{Behind}

-- the ids that are bound to a replica's first keys behind a chain, so many
abbrev pub bound_ids : List ℕ → ℕ → ℕ → List (List ℕ)
bound_ids chain replica zero = []
bound_ids chain replica (suc count) = bound_ids chain replica count ++ bound_id chain replica count ∷ []

-- a seed that was drawn behind 16 bytes, which this id takes the place of
pub record IsDrawn (Draws : List ℕ → Type 0) (id : List ℕ) (secret : PrivateSeed) : Type 0 where
  pub bound : secret.key_id ≡ id
  pub passed : List ℕ
  pub size : length passed ≡ 16
  pub drawn : Draws (passed ++ secret.seed)

-- one for each id
abbrev pub AreDrawn : (List ℕ → Type 0) → Behind → List PrivateSeed → Type 0
AreDrawn Draws behind secrets = AllZip (IsDrawn Draws) (bound_ids behind.chain behind.replica behind.count) secrets

-- the public keys of such seeds
pub record AreNextKeys (Draws : List ℕ → Type 0) (behind : Behind) (keys : List (List ℕ)) : Type 0 where
  pub secrets : List PrivateSeed
  pub drawn : AreDrawn Draws behind secrets
  pub theirs : keys ≡ map public_key secrets
