-- What is signed leads back to the root of the tree
use Rattle.std.proofs.Common.{◌≡◌, ℕ, zero, suc, ◌+◌, ◌-◌, ◌*◌, ◌/◌, ◌%◌, ◌^◌, ◌<◌, ◌≤◌, List, ◌++◌, refl, sym, ap, ◌∙◌, arith, add-one, append_assoc, length, take, nat_lt, Bool, true, false, if◌then◌else◌, inl, inr}
use Rattle.std.proofs.lemmas.Bool.{cases_eq}
use Rattle.std.proofs.lemmas.List.{drop_at, length-append, take_at}
use Rattle.std.proofs.lemmas.Nat.{pow_pos, le-div, div_below}
use Rattle.std.proofs.Math.Nat.{pow-suc, pow-le-pow_right}
use Rattle.byteorder.specs.Endian.{big_bytes, big_number}
use Rattle.byteorder.specs.Numbers.{big_number-reads_back}
use Rattle.sha2.proofs.Facts256.{length-sha256}
use Rattle.base_wire.specs.Pieces.{number_at}
use Rattle.lmots.specs.Chains.{joined, ots_public_key}
use Rattle.lmots.specs.Signatures.{IsOtsSignature, candidate_key, ots_signature}
use Rattle.lmots.proofs.JoinedLemmas.{length-joined, piece-joined, piece_behind}
use Rattle.lmots.proofs.SignedVerifies.{IsOtsSignature-ots_signature, signed_verifies}
use Rattle.lms_tree.specs.Tree.{Verifies, ancestor, climbed, inner_hash, leaf_hash, lms_signature, tree_node, tree_root, node_within, ots_in, parent_hash, path_in, path_node, sibling}
use Rattle.lms_tree.proofs.PathLemmas.{ancestor_more, ancestor_none, number_in_ots, root_from}
use Rattle.lms_tree.proofs.NodeLemmas.{leaf_is_node, node_inner}

-- ---- the way from a leaf to the root

-- below the root, the way stands at a node from 2 on
ancestor_low : (q k : ℕ) → k < 10 → 2 ≤ ancestor (1024 + q) k
ancestor_low q k h =
    let power : 2 ^ (k + 1) ≤ 2 ^ 10 = pow-le-pow_right {n = 2} (omega arith) {i = k + 1} {j = 10} (omega arith) in
    let twice : 2 ^ (k + 1) ≡ 2 ^ k * 2 = rw add-one (pow-suc 2 k) in
    le-div 2 (1024 + q) (2 ^ k) (pow_pos k) (omega (arith, power, twice))

ancestor_high : (q k : ℕ) → q < 1024 → ancestor (1024 + q) k < 2048
ancestor_high q k h =
    let one = pow_pos k in
    div_below (1024 + q) (2 ^ k) 2048 one (omega (arith, one))

sibling-high : (r : ℕ) → r < 2048 → sibling r < 2048
sibling-high r h = elim (cases_eq (r % 2) 1) [
  | inl odd ↦ rw odd (omega arith)
  | inr other ↦ let even : r % 2 ≡ 0 = omega arith in rw even (omega arith)
]

sibling-low : (r : ℕ) → 2 ≤ r → 1 ≤ sibling r
sibling-low r h = elim (cases_eq (r % 2) 1) [
  | inl odd ↦ rw odd (omega arith)
  | inr other ↦ let even : r % 2 ≡ 0 = omega arith in rw even (omega arith)
]

-- each hash that a signature shows is in the tree
pub sibling_in_tree : (q k : ℕ) → q < 1024 → k < 10
    → (ancestor (1024 + q) k < 2048) × (1 ≤ sibling (ancestor (1024 + q) k)) × (sibling (ancestor (1024 + q) k) < 2048)
sibling_in_tree q k leaf level =
    (ancestor_high q k leaf, sibling-low _ (ancestor_low q k level), sibling-high _ (ancestor_high q k leaf))

-- the parent's hash from a node and its sibling
parent_is_node : (id seed : List ℕ) (r : ℕ) → 2 ≤ r → r < 2048
    → parent_hash id r (tree_node id seed r) (tree_node id seed (sibling r)) ≡ tree_node id seed (r / 2)
unfolding parent_hash
parent_is_node id seed r low high =
    let parent = node_inner id seed (r / 2) (omega arith) (omega arith) in
    elim (cases_eq (r % 2) 1) [
      | inl odd ↦
          let left : 2 * (r / 2) ≡ r - 1 = omega arith in
          let right : 2 * (r / 2) + 1 ≡ r = omega arith in
          rw odd (sym (rw (right, left) at parent))
      | inr other ↦
          let even : r % 2 ≡ 0 = omega arith in
          let left : 2 * (r / 2) ≡ r = omega arith in
          rw even (sym (rw left at parent))
    ]

climbed-path : (id seed : List ℕ) (q k : ℕ) → q < 1024 → k ≤ 10
    → climbed id (path_node id seed q) (1024 + q) (tree_node id seed (1024 + q)) k ≡ tree_node id seed (ancestor (1024 + q) k)
unfolding path_node climbed
climbed-path id seed q zero leaf level = rw (ancestor_none (1024 + q)) refl
climbed-path id seed q (suc k) leaf level =
    let before = climbed-path id seed q k leaf (omega arith) in
    let up = rw add-one at (ancestor_more (1024 + q) k) in
    let low = ancestor_low q k (omega arith) in
    let high = ancestor_high q k leaf in
    rw (before, up) (parent_is_node id seed (ancestor (1024 + q) k) low high)

climbed-same : (id : List ℕ) (p s : ℕ → List ℕ) (r : ℕ) (x : List ℕ) (n : ℕ) → ((k : ℕ) → k < n → p k ≡ s k)
    → climbed id p r x n ≡ climbed id s r x n
unfolding climbed
climbed-same id p s r x zero h = refl
climbed-same id p s r x (suc n) h =
    let before = climbed-same id p s r x n (λ k lt. h k (omega arith)) in
    let last = h n (omega arith) in
    rw (before, last) refl

-- ---- the parts of a signature

length-either : (b : Bool) (xs ys : List ℕ) → length xs ≡ 32 → length ys ≡ 32 → length (if b then xs else ys) ≡ 32
length-either true xs ys hx hy = hx
length-either false xs ys hx hy = hy

length-within : (levels : ℕ) (id : List ℕ) (key : ℕ → List ℕ) (r : ℕ) → length (node_within levels id key r) ≡ 32
unfolding node_within leaf_hash inner_hash
length-within zero id key r = length-sha256 _
length-within (suc levels) id key r = length-either (nat_lt r 1024) _ _ (length-sha256 _) (length-sha256 _)

length-path_node : (id seed : List ℕ) (q k : ℕ) → length (path_node id seed q k) ≡ 32
unfolding path_node tree_node
length-path_node id seed q k = length-within 10 id (ots_public_key id seed) (sibling (ancestor (1024 + q) k))

number_at-behind : (front rest : List ℕ) (at : ℕ) → length front ≡ at → number_at 4 (front ++ rest) at ≡ number_at 4 rest 0
unfolding number_at
number_at-behind front rest at long = ap (λ (xs : List ℕ). big_number 4 (take 4 xs)) (drop_at front rest at long)

-- the number that a signature begins with
leaf_number : (q : ℕ) (rest : List ℕ) → q < 1024 → number_at 4 (big_bytes 4 q ++ rest) 0 ≡ q
unfolding number_at
leaf_number q rest small = big_number-reads_back 4 q rest (omega arith)

six : (rest : List ℕ) → number_at 4 (big_bytes 4 6 ++ rest) 0 ≡ 6
unfolding number_at
six rest = refl

-- the parts of a signature's bytes
record HasParts (id seed : List ℕ) (q : ℕ) (message signature : List ℕ) : Type 0 where
  long : length signature ≡ 1452
  leaf : number_at 4 signature 0 ≡ q
  ots : ots_in signature ≡ ots_signature id seed q message
  ots_type : number_at 4 signature 4 ≡ 4
  tree_type : number_at 4 signature 1128 ≡ 6
  path : (k : ℕ) → k < 10 → path_in signature k ≡ path_node id seed q k

parts_of_signature : (id seed : List ℕ) (q : ℕ) (message : List ℕ) → q < 1024
    → HasParts id seed q message (lms_signature id seed q message)
unfolding lms_signature
parts_of_signature id seed q message small =
    let o = ots_signature id seed q message in
    let p = joined (path_node id seed q) 10 in
    let signed : IsOtsSignature o = IsOtsSignature-ots_signature id seed q message in
    let path_long = length-joined (path_node id seed q) 10 (length-path_node id seed q) in
    let front_long : length (big_bytes 4 q ++ o) ≡ 1128 = omega (arith, length-append (big_bytes 4 q) o, signed.long) in
    let head_long : length (big_bytes 4 q ++ o ++ big_bytes 4 6) ≡ 1132 =
    omega (arith, length-append (big_bytes 4 q ++ o) (big_bytes 4 6), front_long) in
    let whole : length (big_bytes 4 q ++ o ++ big_bytes 4 6 ++ p) ≡ 1452 =
    omega (arith, length-append (big_bytes 4 q ++ o ++ big_bytes 4 6) p, head_long, path_long) in
    let inside : ots_in (big_bytes 4 q ++ o ++ big_bytes 4 6 ++ p) ≡ o =
    ap (λ (xs : List ℕ). take 1124 xs) (append_assoc o (big_bytes 4 6) p) ∙ take_at o (big_bytes 4 6 ++ p) 1124 signed.long in
    record {
      long = whole;
      leaf = leaf_number q (o ++ big_bytes 4 6 ++ p) small;
      ots = inside;
      ots_type = sym (number_in_ots (big_bytes 4 q ++ o ++ big_bytes 4 6 ++ p))
          ∙ ap (λ (xs : List ℕ). number_at 4 xs 0) inside ∙ signed.ots_type;
      tree_type = ap (λ (xs : List ℕ). number_at 4 xs 1128) (append_assoc (big_bytes 4 q ++ o) (big_bytes 4 6) p)
          ∙ number_at-behind (big_bytes 4 q ++ o) (big_bytes 4 6 ++ p) 1128 front_long ∙ six p;
      path = λ k lt. piece_behind 32 (big_bytes 4 q ++ o ++ big_bytes 4 6) p 1132 (32 * k) (1132 + 32 * k) head_long refl
          ∙ piece-joined (path_node id seed q) 10 k (length-path_node id seed q) lt;
    }

pub signature_verifies : (id seed : List ℕ) (q : ℕ) (message : List ℕ) → q < 1024
    → Verifies id (tree_root id seed) message (lms_signature id seed q message)
signature_verifies id seed q message small =
    let s = lms_signature id seed q message in
    let parts = parts_of_signature id seed q message small in
    let candidate = ap (λ (xs : List ℕ). candidate_key id q message xs) parts.ots ∙ signed_verifies id seed q message in
    let top : ancestor (1024 + q) 10 ≡ 1 = omega arith in
    let climb = climbed-same id (path_in s) (path_node id seed q) (1024 + q) (tree_node id seed (1024 + q)) 10 parts.path
    ∙ climbed-path id seed q 10 small (omega arith) ∙ ap (λ (r : ℕ). tree_node id seed r) top in
    record {
      long = parts.long;
      index = omega (arith, parts.leaf);
      ots_type = parts.ots_type;
      tree_type = parts.tree_type;
      same_root = root_from id message s q (ots_public_key id seed q) (tree_node id seed (1024 + q)) (tree_node id seed 1)
          (sym parts.leaf) (sym candidate) (sym (leaf_is_node id seed q)) (sym climb);
    }

-- the number of the one-time key stands in front
pub index_of_signature : (id seed : List ℕ) (q : ℕ) (message : List ℕ) → q < 1024 → number_at 4 (lms_signature id seed q message) 0 ≡ q
unfolding lms_signature
index_of_signature id seed q message h = leaf_number q _ h
