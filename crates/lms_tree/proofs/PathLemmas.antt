-- The equations of `climbed` and `ancestor`, as a loop meets them
use Rattle.std.proofs.Common.{◌≡◌, ◌≢◌, true, not, nat_eq, ℕ, ◌+◌, ◌/◌, List, drop, refl, sym, ap, arith, add-one}
use Rattle.std.proofs.lemmas.List.{take-take}
use Rattle.std.proofs.lemmas.Nat.{shr-shr}
use Rattle.std.specs.Cmp.Lexicographic.{bytes_decides, pointwise}
use Rattle.byteorder.specs.Endian.{big_number}
use Rattle.base_wire.specs.Pieces.{number_at}
use Rattle.lmots.specs.Signatures.{candidate_key}
use Rattle.lms_tree.specs.Tree.{ancestor, climbed, leaf_hash, ots_in, parent_hash, path_in, root_from_path}

pub climbed_none : (id : List ℕ) (path : ℕ → List ℕ) (r : ℕ) (x : List ℕ) → climbed id path r x 0 ≡ x
unfolding climbed
climbed_none id path r x = refl

pub climbed_more : (id : List ℕ) (path : ℕ → List ℕ) (r : ℕ) (x : List ℕ) (k : ℕ)
    → climbed id path r x (k + 1) ≡ parent_hash id (ancestor r k) (climbed id path r x k) (path k)
unfolding climbed
climbed_more id path r x k = rw add-one refl

pub ancestor_none : (r : ℕ) → ancestor r 0 ≡ r
ancestor_none r = omega arith

pub ancestor_more : (r k : ℕ) → ancestor r (k + 1) ≡ ancestor r k / 2
ancestor_more r k = sym (shr-shr r k 1)

-- the root by the steps of a verifier
pub root_from : (id message signature : List ℕ) (q : ℕ) (key leaf root : List ℕ)
    → q ≡ number_at 4 signature 0 → key ≡ candidate_key id q message (ots_in signature)
    → leaf ≡ leaf_hash id (1024 + q) key → root ≡ climbed id (path_in signature) (1024 + q) leaf 10
    → root_from_path id message signature ≡ root
unfolding root_from_path
root_from id message signature q key leaf root first second third fourth =
    rw (fourth, third, second, first) refl

-- the type of the one-time signature in a signature
pub number_in_ots : (signature : List ℕ) → number_at 4 (ots_in signature) 0 ≡ number_at 4 signature 4
unfolding number_at
number_in_ots signature = ap (λ (xs : List ℕ). big_number 4 xs) (take-take 4 1124 (drop 4 signature) (omega arith))

-- roots that were told apart
pub told_apart : (xs ys : List ℕ) → true ≡ not (pointwise nat_eq xs ys) → xs ≢ ys
told_apart xs ys differ same =
    let found = (bytes_decides xs ys).1 same in
    absurd (cc)
