-- LMS with LMS_SHA256_M32_H10 (RFC 8554, section 5), as functions on lists of bytes. The tree has 1,024
-- leaves; its nodes are numbered from the root, which is 1, and node r has the children 2 * r and
-- 2 * r + 1. `id` is a key's id of 16 bytes and `seed` its seed of 32 bytes.
use Rattle.std.specs.Prelude.{◌≡◌, ℕ, zero, suc, ◌+◌, ◌-◌, ◌*◌, ◌/◌, ◌%◌, ◌^◌, ◌<◌, ◌≤◌, List, [], ◌++◌, length, nat_lt, slice_index_or, ◌==◌, if◌then◌else◌}
use Rattle.byteorder.specs.Endian.{big_bytes}
use Rattle.sha2.specs.Sha256.{sha256}
use Rattle.base_wire.specs.Pieces.{number_at, piece}
use Rattle.lmots.specs.declared.signatures.TheConstants.{OTS_SIGNATURE_LEN}
use Rattle.lms_tree.specs.declared.TheConstants.{LEAVES, LEAF_FOURS, NODES, OTS_AT, PATH_AT, SIGNATURE_LEN, TREE_TYPE_AT}
use Rattle.lmots.specs.Chains.{joined, ots_public_key, prefix}
use Rattle.lmots.specs.Signatures.{candidate_key, ots_signature}

-- the hash of leaf r over its one-time public key; 0x8282 is D_LEAF (section 5.3)
unfoldable pub leaf_hash : List ℕ → ℕ → List ℕ → List ℕ
leaf_hash id r key = sha256 (prefix id r 0x8282 ++ key)

-- the hash of inner node r over those of its children; 0x8383 is D_INTR (section 5.3)
unfoldable pub inner_hash : List ℕ → ℕ → List ℕ → List ℕ → List ℕ
inner_hash id r left right = sha256 (prefix id r 0x8383 ++ left ++ right)

-- T[r], where key q is the public key of leaf q, and r stands at most so many levels above the leaves
unfoldable pub node_within : ℕ → List ℕ → (ℕ → List ℕ) → ℕ → List ℕ
node_within zero id key r = leaf_hash id r (key (r - LEAVES))
node_within (suc levels) id key r =
    if nat_lt r LEAVES
    then inner_hash id r (node_within levels id key (2 * r)) (node_within levels id key (2 * r + 1))
    else leaf_hash id r (key (r - LEAVES))

-- T[r] of the tree over a seed's one-time keys (section 5.3)
unfoldable pub tree_node : List ℕ → List ℕ → ℕ → List ℕ
tree_node id seed r = node_within 10 id (ots_public_key id seed) r

-- T[1], the root of that tree
abbrev pub tree_root : List ℕ → List ℕ → List ℕ
tree_root id seed = tree_node id seed 1

-- the bytes of a public key: the types of the tree and of its one-time keys, the id and the root (section 5.3)
unfoldable pub key_text : List ℕ → List ℕ → List ℕ
key_text id root = big_bytes 4 6 ++ big_bytes 4 4 ++ id ++ root

-- ---- signing (section 5.4.1)

-- the other child of node r's parent
abbrev pub sibling : ℕ → ℕ
sibling r = if r % 2 == 1 then r - 1 else r + 1

-- the node k levels above node r
abbrev pub ancestor : ℕ → ℕ → ℕ
ancestor r k = r / 2 ^ k

-- path[k]: the sibling of the node at level k on the way from leaf q to the root
unfoldable pub path_node : List ℕ → List ℕ → ℕ → ℕ → List ℕ
path_node id seed q k = tree_node id seed (sibling (ancestor (LEAVES + q) k))

-- the signature of a message with leaf q
unfoldable pub lms_signature : List ℕ → List ℕ → ℕ → List ℕ → List ℕ
lms_signature id seed q message =
    big_bytes 4 q ++ ots_signature id seed q message ++ big_bytes 4 6 ++ joined (path_node id seed q) 10

-- ---- verifying (section 5.4.2)

-- the hash of the parent of node r, from the hash of r and that of its sibling: an odd node stands to the right
unfoldable pub parent_hash : List ℕ → ℕ → List ℕ → List ℕ → List ℕ
parent_hash id r hash other =
    if r % 2 == 1 then inner_hash id (r / 2) other hash else inner_hash id (r / 2) hash other

-- the hash k levels above node r, whose own hash is x, where path k is the sibling's hash at level k
unfoldable pub climbed : List ℕ → (ℕ → List ℕ) → ℕ → List ℕ → ℕ → List ℕ
climbed id path r x zero = x
climbed id path r x (suc k) = parent_hash id (ancestor r k) (climbed id path r x k) (path k)

-- the path in a signature's bytes
abbrev pub path_in : List ℕ → ℕ → List ℕ
path_in signature k = piece 32 signature (PATH_AT + 32 * k)

-- the one-time signature in a signature's bytes
abbrev pub ots_in : List ℕ → List ℕ
ots_in signature = piece OTS_SIGNATURE_LEN signature OTS_AT

-- Tc, the root that a signature of a message leads to
unfoldable pub root_from_path : List ℕ → List ℕ → List ℕ → List ℕ
root_from_path id message signature =
    let q = number_at 4 signature 0 in
    let leaf = leaf_hash id (LEAVES + q) (candidate_key id q message (ots_in signature)) in
    climbed id (path_in signature) (LEAVES + q) leaf 10

-- the bytes are a signature of the message under the key with this id and root
pub record Verifies (id root message signature : List ℕ) : Type 0 where
  pub long : length signature ≡ SIGNATURE_LEN
  pub index : number_at 4 signature 0 < LEAVES
  pub ots_type : number_at 4 signature 4 ≡ 4
  pub tree_type : number_at 4 signature TREE_TYPE_AT ≡ 6
  pub same_root : root_from_path id message signature ≡ root

-- ---- a tree in memory

-- the list has T[r] at each place r from `low` on
abbrev pub IsFilled : List ℕ → List ℕ → ℕ → List (List ℕ) → Type 0
IsFilled id seed low nodes = (r : ℕ) (d : List ℕ) → low ≤ r → r < NODES → slice_index_or nodes r d ≡ tree_node id seed r

-- the list has the hashes of the leaves from q on, four of them
abbrev pub AreFourLeaves : List ℕ → List ℕ → ℕ → List (List ℕ) → Type 0
AreFourLeaves id seed q four = (k : ℕ) → k < 4 → slice_index_or four k [] ≡ tree_node id seed (LEAVES + q + k)

-- the list has the hashes of the tree's leaves, those from 4 * p on at each place p
abbrev pub AreLeaves : List ℕ → List ℕ → List (List (List ℕ)) → Type 0
AreLeaves id seed fours = (length fours ≡ LEAF_FOURS)
    × ((p : ℕ) → p < LEAF_FOURS → AreFourLeaves id seed (4 * p) (slice_index_or fours p []))

-- the list has T[r] at the place r of each leaf below the leaf n
abbrev pub HasLeaves : List ℕ → List ℕ → ℕ → List (List ℕ) → Type 0
HasLeaves id seed n nodes = (length nodes ≡ NODES)
    × ((r : ℕ) (d : List ℕ) → LEAVES ≤ r → r < LEAVES + n → slice_index_or nodes r d ≡ tree_node id seed r)

-- the list has T[r] at each place r of the tree
abbrev pub IsTree : List ℕ → List ℕ → List (List ℕ) → Type 0
IsTree id seed nodes = (length nodes ≡ NODES) × IsFilled id seed 1 nodes
