-- A committee and its bytes, which docs/FORMATS.md, "Committee", lays out in three formats. Its replicas are numbered from
-- 0 in the order in which they stand. Each has a weight, which is 1 where the format has none, and one to four LMS public
-- keys of its own (RFC 8554, section 5.3), numbered from 0, which are one where the format has no room for more.
use Rattle.std.specs.Prelude.{◌≡◌, ◌≢◌, ◌⊎◌, ◌<◌, ◌≤◌, ◌+◌, ◌-◌, ◌*◌, ◌^◌, ◌++◌, ◌||◌, ℕ, Bool, List, length, codes, replicate, if◌then◌else◌}
use Rattle.std.specs.List.{All, AllPairs, concat, flat_map}
use Rattle.std.specs.Str.{bytes_eq}
use Rattle.byteorder.specs.Endian.{big_bytes}
use Rattle.lms_tree.specs.Keys.{IsPublicKey}
use Rattle.base_wire.specs.Pieces.{piece, number_at}
use Rattle.base_wire.specs.declared.limits.TheConstants.{MOST_KEYS}

-- a replica of a committee: how much it counts, and its public keys of 56 bytes each
pub record Member : Type 0 where
  pub weight : ℕ
  pub keys : List (List ℕ)

-- ---- the bytes of a committee

-- "HSC1", f, the number of keys, and the keys one after the other
unfoldable pub committee_text : ℕ → List (List ℕ) → List ℕ
committee_text f keys = codes "HSC1" ++ (big_bytes 2 f ++ (big_bytes 2 (length keys) ++ concat keys))

-- four bytes of weight, and the key
abbrev pub member_text : Member → List ℕ
member_text m = big_bytes 4 m.weight ++ concat m.keys

-- "HSC2", two bytes 0, the number of replicas, and the replicas one after the other
unfoldable pub weighted_text : List Member → List ℕ
weighted_text members =
    codes "HSC2" ++ (big_bytes 2 0 ++ (big_bytes 2 (length members) ++ flat_map member_text members))

-- the keys, and zeros up to the room of four
abbrev pub slots_text : List (List ℕ) → List ℕ
slots_text keys = concat keys ++ replicate (56 * (MOST_KEYS - length keys)) 0

-- four bytes of weight, four of the number of keys, and the keys
abbrev pub multikey_member_text : Member → List ℕ
multikey_member_text m = big_bytes 4 m.weight ++ (big_bytes 4 (length m.keys) ++ slots_text m.keys)

-- "HSC3", two bytes 0, the number of replicas, and the replicas one after the other
unfoldable pub multikey_text : List Member → List ℕ
multikey_text members =
    codes "HSC3" ++ (big_bytes 2 0 ++ (big_bytes 2 (length members) ++ flat_map multikey_member_text members))

-- ---- who may be in it

-- no key of the one is one of the other
abbrev pub HaveDifferentKeys : Member → Member → Type 0
HaveDifferentKeys m o = All (λ key. All (λ other. key ≢ other) o.keys) m.keys

-- each key is a public key, and no two are the same
pub record HaveKeys (members : List Member) : Type 0 where
  pub public_keys : All (λ m. All IsPublicKey m.keys) members
  pub own : All (λ m. AllPairs (λ key other. key ≢ other) m.keys) members
  pub different : AllPairs HaveDifferentKeys members

-- each has one key
abbrev pub HaveOneKey : List Member → Type 0
HaveOneKey members = All (λ m. length m.keys ≡ 1) members

-- each has a weight of its own
abbrev pub AreWeighted : List Member → Type 0
AreWeighted members = All (λ m. (1 ≤ m.weight) × (m.weight < 2 ^ 32)) members

-- 3f + 1 replicas, f of 1 to 10, each of weight 1 and with one key
pub record CountOnce (members : List Member) (bytes : List ℕ) : Type 0 where
  pub f : ℕ
  pub least : 1 ≤ f
  pub most : f ≤ 10
  pub size : length members ≡ 3 * f + 1
  pub weights : All (λ m. m.weight ≡ 1) members
  pub one_key : HaveOneKey members
  pub text : bytes ≡ committee_text f (flat_map (λ m. m.keys) members)

-- 4 to 31 replicas, each of a weight of its own and with one key
pub record HaveWeights (members : List Member) (bytes : List ℕ) : Type 0 where
  pub least : 4 ≤ length members
  pub most : length members ≤ 31
  pub weights : AreWeighted members
  pub one_key : HaveOneKey members
  pub text : bytes ≡ weighted_text members

-- 4 to 31 replicas, each of a weight of its own and with one to four keys
pub record HaveManyKeys (members : List Member) (bytes : List ℕ) : Type 0 where
  pub least : 4 ≤ length members
  pub most : length members ≤ 31
  pub weights : AreWeighted members
  pub counts : All (λ m. (1 ≤ length m.keys) × (length m.keys ≤ MOST_KEYS)) members
  pub text : bytes ≡ multikey_text members

-- the bytes spell these members, in one of the formats
pub record AreSpelled (members : List Member) (bytes : List ℕ) : Type 0 where
  pub keys : HaveKeys members
  pub text : CountOnce members bytes ⊎ (HaveWeights members bytes ⊎ HaveManyKeys members bytes)

-- what holds of the members that the bytes spell
abbrev pub WhereSpelled : List ℕ → (List Member → Type 0) → Type 0
WhereSpelled bytes P = (members : List Member) → AreSpelled members bytes → P members

-- these bytes are a committee
pub record IsCommittee (bytes : List ℕ) : Type 0 where
  pub members : List Member
  pub spelled : AreSpelled members bytes

-- ---- its parts at their places

-- whether the format has room for several keys
abbrev pub has_many_keys : List ℕ → Bool
has_many_keys bytes = bytes_eq (codes "HSC3") (piece 4 bytes 0)

-- whether the format has weights
abbrev pub has_weights : List ℕ → Bool
has_weights bytes = has_many_keys bytes || bytes_eq (codes "HSC2") (piece 4 bytes 0)

-- how many replicas there are
abbrev pub n_of : List ℕ → ℕ
n_of bytes = number_at 2 bytes 6

-- where the bytes of replica r begin
abbrev pub place_of : List ℕ → ℕ → ℕ
place_of bytes r = if has_many_keys bytes then 8 + 232 * r else (if has_weights bytes then 8 + 60 * r else 8 + 56 * r)

-- the weight of replica r
unfoldable pub weight_at : List ℕ → ℕ → ℕ
weight_at bytes r = if has_weights bytes then number_at 4 bytes (place_of bytes r) else 1

-- for how many keys each replica has room
abbrev pub room_of : List ℕ → ℕ
room_of bytes = if has_many_keys bytes then MOST_KEYS else 1

-- how many keys replica r has
unfoldable pub keys_of : List ℕ → ℕ → ℕ
keys_of bytes r = if has_many_keys bytes then number_at 4 bytes (place_of bytes r + 4) else 1

-- where key k of replica r stands
abbrev pub key_place : List ℕ → ℕ → ℕ → ℕ
key_place bytes r k =
    if has_many_keys bytes then place_of bytes r + 8 + 56 * k else (if has_weights bytes then place_of bytes r + 4 + 56 * k else place_of bytes r + 56 * k)

-- its 56 bytes
unfoldable pub key_at : List ℕ → ℕ → ℕ → List ℕ
key_at bytes r k = piece 56 bytes (key_place bytes r k)

-- the id of that key
abbrev pub key_id_at : List ℕ → ℕ → ℕ → List ℕ
key_id_at bytes r k = piece 16 (key_at bytes r k) 8

-- the root of its tree
abbrev pub root_at : List ℕ → ℕ → ℕ → List ℕ
root_at bytes r k = piece 32 (key_at bytes r k) 24
