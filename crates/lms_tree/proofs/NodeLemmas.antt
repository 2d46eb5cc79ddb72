-- The two equations of a tree's nodes
use Rattle.std.proofs.Common.{◌≡◌, ◌≢◌, length, get_or, set, get_or-set_same, get_or-set_other, ℕ, zero, suc, ◌+◌, ◌-◌, ◌*◌, ◌^◌, ◌<◌, ◌≤◌, List, refl, sym, ap, ◌∙◌, arith, nat_lt, true, false, inl, inr}
use Rattle.std.proofs.lemmas.Bool.{cases_eq, cases_lt}
use Rattle.std.proofs.Math.Nat.{pow-suc}
use Rattle.lmots.specs.Chains.{ots_public_key}
use Rattle.lms_tree.specs.Tree.{inner_hash, leaf_hash, tree_node, node_within}

within-leaf : (levels : ℕ) (id : List ℕ) (key : ℕ → List ℕ) (r : ℕ) → 1024 ≤ r
    → node_within levels id key r ≡ leaf_hash id r (key (r - 1024))
unfolding node_within
within-leaf zero id key r h = refl
within-leaf (suc levels) id key r h =
    let above : nat_lt r 1024 ≡ false = grind arith in
    rw above refl

within-inner : (levels : ℕ) (id : List ℕ) (key : ℕ → List ℕ) (r : ℕ) → r < 1024
    → node_within (suc levels) id key r
    ≡ inner_hash id r (node_within levels id key (2 * r)) (node_within levels id key (2 * r + 1))
unfolding node_within
within-inner levels id key r h =
    let below : nat_lt r 1024 ≡ true = grind arith in
    rw below refl

-- more levels change nothing where those that are counted reach the leaves
enough-levels : (levels : ℕ) (id : List ℕ) (key : ℕ → List ℕ) (r : ℕ) → 1024 ≤ r * 2 ^ levels
    → node_within (suc levels) id key r ≡ node_within levels id key r
enough-levels zero id key r h =
    let leaf : 1024 ≤ r = omega arith in
    within-leaf 1 id key r leaf ∙ sym (within-leaf 0 id key r leaf)
enough-levels (suc levels) id key r h = elim (cases_lt r 1024) [
  | inl below ↦
      let twice = ap (λ (p : ℕ). r * p) (pow-suc 2 levels) in
      let left : 1024 ≤ (2 * r) * 2 ^ levels = omega (arith, twice) in
      let right : 1024 ≤ (2 * r + 1) * 2 ^ levels = omega (arith, left) in
      rw (
        within-inner (suc levels) id key r below,
        within-inner levels id key r below,
        enough-levels levels id key (2 * r) left,
        enough-levels levels id key (2 * r + 1) right,
      ) refl
  | inr leaf ↦ within-leaf (suc (suc levels)) id key r leaf ∙ sym (within-leaf (suc levels) id key r leaf)
]

pub node_leaf : (id seed : List ℕ) (r : ℕ) → 1024 ≤ r → tree_node id seed r ≡ leaf_hash id r (ots_public_key id seed (r - 1024))
unfolding tree_node
node_leaf id seed r h = within-leaf 10 id (ots_public_key id seed) r h

pub node_inner : (id seed : List ℕ) (r : ℕ) → 1 ≤ r → r < 1024
    → tree_node id seed r ≡ inner_hash id r (tree_node id seed (2 * r)) (tree_node id seed (2 * r + 1))
unfolding tree_node
node_inner id seed r low high =
    let left : 1024 ≤ (2 * r) * 2 ^ 9 = omega arith in
    let right : 1024 ≤ (2 * r + 1) * 2 ^ 9 = omega arith in
    rw (enough-levels 9 id (ots_public_key id seed) (2 * r) left, enough-levels 9 id (ots_public_key id seed) (2 * r + 1) right)
    (within-inner 9 id (ots_public_key id seed) r high)

-- a list after the write of f i at the place i agrees with f wherever it did before, and at i
pub set_agrees : (f : ℕ → List ℕ) (nodes : List (List ℕ)) (i : ℕ) (x : List ℕ) (r : ℕ) (d : List ℕ)
    → i < length nodes → x ≡ f i → (r ≢ i → get_or nodes r d ≡ f r) → get_or (set nodes i x) r d ≡ f r
set_agrees f nodes i x r d within value before = elim (cases_eq r i) [
  | inl same ↦ rw (same, get_or-set_same nodes i x d within) value
  | inr other ↦ rw (get_or-set_other nodes i r x d other) (before other)
]

-- the leaf of the one-time key q
pub leaf_is_node : (id seed : List ℕ) (q : ℕ) → leaf_hash id (1024 + q) (ots_public_key id seed q) ≡ tree_node id seed (1024 + q)
leaf_is_node id seed q =
    let back : 1024 + q - 1024 ≡ q = omega arith in
    let high : 1024 ≤ 1024 + q = omega arith in
    rw (node_leaf id seed (1024 + q) high, back) refl
