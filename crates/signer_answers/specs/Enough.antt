-- When a replica has heard enough of the others.
use Rattle.std.specs.Prelude.{◌≡◌, ◌<◌, ◌*◌, ℕ, List, Bool, true, false, cond, nat_eq, slice_index_or}
use Rattle.blocks.specs.Committees.{n_of, weight_at}
use Rattle.blocks.specs.Weights.{is_among, total_of, weight_of}

-- whether the logs of another replica were read whole, of those of which this is told by their numbers
abbrev pub is_heard : ℕ → List Bool → ℕ → Bool
is_heard replica whole other = cond (nat_eq other replica) false (slice_index_or whole other false)

-- how much the others that were heard count together
abbrev pub heard_weight : List ℕ → ℕ → List Bool → ℕ
heard_weight committee replica whole = weight_of (weight_at committee) (is_heard replica whole) (n_of committee)

-- more than a third of all: so where at most a third is faulty or silent, a correct one is among them
abbrev pub AreEnough : List ℕ → ℕ → List Bool → Type 0
AreEnough committee replica whole = total_of committee < 3 * heard_weight committee replica whole

-- ---- before any is heard

-- whether another replica is asked, of those of which these are the numbers
abbrev pub is_asked : ℕ → List ℕ → ℕ → Bool
is_asked replica asked other = cond (nat_eq other replica) false (is_among asked other)

-- how much the others that are asked count together
abbrev pub asked_weight : List ℕ → ℕ → List ℕ → ℕ
asked_weight committee replica asked = weight_of (weight_at committee) (is_asked replica asked) (n_of committee)

-- more than a third of all
abbrev pub CanBeEnough : List ℕ → ℕ → List ℕ → Type 0
CanBeEnough committee replica asked = total_of committee < 3 * asked_weight committee replica asked

-- no other replicas than those that are asked were heard
abbrev pub AreOf : List ℕ → List Bool → Type 0
AreOf asked whole = (other : ℕ) → slice_index_or whole other false ≡ true → is_among asked other ≡ true
