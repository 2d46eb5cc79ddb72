-- How much each replica counts, and how much a quorum. A committee is here what these rules need of it, whatever its bytes.
use Rattle.std.specs.Prelude.{ℕ, zero, suc, ◌≡◌, ◌+◌, ◌*◌, ◌/◌, ◌<◌, List, Bool, true, cond, nat_eq, nat_lt}
use Rattle.std.specs.List.{list_any}
use Rattle.blocks.specs.Headers.{Header}
use Rattle.blocks.specs.Committees.{n_of, weight_at}
use Rattle.blocks.specs.Genesis.{genesis_of}

-- replicas are the numbers below the size
pub record Committee : Type 0 where
  pub genesis : Header
  pub size : ℕ
  pub weight : ℕ → ℕ
  pub quorum : ℕ

-- the weight of the replicas below n that pass a test
abbrev pub weight_of : (ℕ → ℕ) → (ℕ → Bool) → ℕ → ℕ
weight_of weight test zero = 0
weight_of weight test (suc n) = weight_of weight test n + cond (test n) (weight n) 0

-- the calls of a test of replicas below n answer what is_in says
abbrev pub Decides : {F : Type 0} → (F → ℕ → Bool → Type 0) → F → (ℕ → Bool) → ℕ → Type 0
Decides post test is_in n = (r : ℕ) (answer : Bool) → r < n → post test r answer → answer ≡ is_in r

-- every replica passes
abbrev pub is_any : ℕ → Bool
is_any r = true

-- the replica is one of these
abbrev pub is_among : List ℕ → ℕ → Bool
is_among rs r = list_any (nat_eq r) rs

-- the weight of all replicas
abbrev pub total_weight : Committee → ℕ
total_weight c = weight_of c.weight is_any c.size

-- ---- the committee of these bytes

-- the weight of all replicas
abbrev pub total_of : List ℕ → ℕ
total_of bytes = weight_of (weight_at bytes) is_any (n_of bytes)

-- the weight of a quorum, the least above two thirds of all: so the replicas that any two quorums share have more than a
-- third. Of 3f + 1 replicas of weight 1 it is 2f + 1
abbrev pub quorum_of : List ℕ → ℕ
quorum_of bytes = 2 * total_of bytes / 3 + 1

abbrev pub committee_of : List ℕ → Committee
committee_of bytes = record {
  genesis = genesis_of bytes;
  size = n_of bytes;
  weight = weight_at bytes;
  quorum = quorum_of bytes;
}
