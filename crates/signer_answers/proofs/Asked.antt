-- What those that are asked weigh.
use Rattle.std.proofs.Common.{◌≡◌, ℕ, zero, suc, ◌≤◌, List, Bool, true, false, cond, nat_eq, refl, arith}
use Rattle.std.specs.Prelude.{slice_index_or}
use Rattle.std.proofs.lemmas.Bool.{false≢true}
use Rattle.blocks.specs.Committees.{n_of, weight_at}
use Rattle.blocks.specs.Weights.{is_among, weight_of}
use Rattle.signer_answers.specs.Enough.{AreEnough, AreOf, CanBeEnough, is_asked, is_heard}

more_at : (a b : Bool) (w : ℕ) → (a ≡ true → b ≡ true) → cond a w 0 ≤ cond b w 0
more_at true true w h = omega arith
more_at true false w h = absurd (false≢true (h refl))
more_at false b w h = omega arith

-- a larger set weighs no less
more : (w : ℕ → ℕ) (p q : ℕ → Bool) (n : ℕ) → ((r : ℕ) → p r ≡ true → q r ≡ true) → weight_of w p n ≤ weight_of w q n
more w p q zero h = omega arith
more w p q (suc n) h =
    let k = more w p q n h in
    let b = more_at (p n) (q n) (w n) (h n) in
    omega arith

heard_at : (own heard asked : Bool) → (heard ≡ true → asked ≡ true) → cond own false heard ≡ true → cond own false asked ≡ true
heard_at true heard asked h e = e
heard_at false heard asked h e = h e

-- who is heard and asked is asked
heard_are_asked : (replica : ℕ) (asked : List ℕ) (whole : List Bool) → AreOf asked whole → (r : ℕ) → is_heard replica whole r ≡ true → is_asked replica asked r ≡ true
heard_are_asked replica asked whole of r = heard_at (nat_eq r replica) (slice_index_or whole r false) (is_among asked r) (of r)

-- where those that are heard are enough, those that are asked can be
pub enough_can_be : (committee : List ℕ) (replica : ℕ) (asked : List ℕ) (whole : List Bool) → AreOf asked whole → AreEnough committee replica whole → CanBeEnough committee replica asked
enough_can_be committee replica asked whole of enough =
    let k = more (weight_at committee) (is_heard replica whole) (is_asked replica asked) (n_of committee) (heard_are_asked replica asked whole of) in
    omega arith
