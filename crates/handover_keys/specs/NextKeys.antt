-- A replica's statement of its next keys, as docs/FORMATS.md, "Statement of next keys", lays it out.
use Rattle.std.specs.Prelude.{◌≡◌, ◌≤◌, ◌<◌, ◌^◌, ◌+◌, ◌*◌, ◌++◌, ℕ, zero, suc, List, [], ◌∷◌, codes, length, map, take, drop, slice_index}
use Rattle.std.specs.List.{All, concat}
use Rattle.byteorder.specs.Endian.{big_bytes}
use Rattle.lms_tree.specs.Keys.{IsPublicKey}
use Rattle.lms_tree.specs.Tree.{key_text}
use Rattle.lms_tree.specs.declared.public_key.PublicKey.{PublicKey}
use Rattle.base_wire.specs.Pieces.{piece, number_at}
use Rattle.base_wire.specs.declared.limits.TheConstants.{MOST_KEYS}

-- what is stated: the chain of the committee before, a replica of it, and the next public keys of that replica, of 56 bytes each
pub record NextKeys : Type 0 where
  pub chain : List ℕ
  pub replica : ℕ
  pub keys : List (List ℕ)

-- the chain id has 32 bytes, the replica fits two, and there are one to four public keys
pub record AreNextKeys (v : NextKeys) : Type 0 where
  pub chain : length v.chain ≡ 32
  pub replica : v.replica < 2 ^ 16
  pub least : 1 ≤ length v.keys
  pub most : length v.keys ≤ MOST_KEYS
  pub public_keys : All IsPublicKey v.keys

-- "HSE1", the chain id, the replica, the number of keys, and the keys one after the other
unfoldable pub next_keys_text : NextKeys → List ℕ
next_keys_text v = codes "HSE1" ++ (v.chain ++ (big_bytes 2 v.replica ++ length v.keys ∷ concat v.keys))

-- the bytes state these keys
pub record IsNextKeysOf (bytes : List ℕ) (v : NextKeys) : Type 0 where
  pub parts : AreNextKeys v
  pub text : bytes ≡ next_keys_text v

-- two statements of the same bytes are one
abbrev pub NextKeysHaveOneSpelling : Type 0
NextKeysHaveOneSpelling = (bytes : List ℕ) (v w : NextKeys) → IsNextKeysOf bytes v → IsNextKeysOf bytes w → v ≡ w

-- what is stated of these keys
abbrev pub public_key_text : PublicKey → List ℕ
public_key_text key = key_text key.key_id key.root

abbrev pub stated : List ℕ → ℕ → List PublicKey → NextKeys
stated chain replica keys = record { chain = chain; replica = replica; keys = map public_key_text keys }

-- ---- the parts of a statement at their places

abbrev pub chain_in : List ℕ → List ℕ
chain_in bytes = piece 32 bytes 4

abbrev pub replica_in : List ℕ → ℕ
replica_in bytes = number_at 2 bytes 36

-- how many keys it names
abbrev pub count_in : List ℕ → ℕ
count_in bytes = slice_index bytes 38

-- the key of this number
unfoldable pub key_in : List ℕ → ℕ → List ℕ
key_in bytes k = piece 56 bytes (39 + 56 * k)

-- the id of that key, and the root of its tree
abbrev pub key_id_in : List ℕ → ℕ → List ℕ
key_id_in bytes k = piece 16 (key_in bytes k) 8

abbrev pub root_in : List ℕ → ℕ → List ℕ
root_in bytes k = piece 32 (key_in bytes k) 24

-- so many keys, one after the other
unfoldable pub keys_from : ℕ → List ℕ → List (List ℕ)
keys_from zero text = []
keys_from (suc n) text = take 56 text ∷ keys_from n (drop 56 text)

-- what the bytes state
abbrev pub next_keys_in : List ℕ → NextKeys
next_keys_in bytes = record { chain = chain_in bytes; replica = replica_in bytes; keys = keys_from (count_in bytes) (drop 39 bytes) }
