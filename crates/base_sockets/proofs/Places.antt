-- The connection with the least claim among the first ones.
use Rattle.std.proofs.Common.{◌≡◌, ℕ, ◌<◌, ◌≤◌, List, length, Option, Some, None, arith}
use Rattle.base_sockets.specs.declared.standing.Standing.{Standing}
use Rattle.base_sockets.specs.GivingWay.{IsFirstToGo, claim_at, stays}

abbrev pub IsAt : ℕ → List Standing → ℕ → ℕ → Option ℕ → Type 0
IsAt nth all count least (Some i) = (i < count) × (claim_at nth all i ≡ least) × (least < stays) × ((k : ℕ) → k < i → least < claim_at nth all k)
IsAt nth all count least None = least ≡ stays

-- of the first so many
pub record IsPlace (nth : ℕ) (all : List Standing) (count least : ℕ) (place : Option ℕ) : Type 0 where
  pub most : least ≤ stays
  pub below : (k : ℕ) → k < count → least ≤ claim_at nth all k
  pub each : (k : ℕ) → k < count → claim_at nth all k ≤ stays
  pub at : IsAt nth all count least place

-- of all: who goes first
pub is_first : (nth : ℕ) (all : List Standing) (count least : ℕ) (place : Option ℕ) → IsPlace nth all count least place → length all ≡ count → IsFirstToGo nth all place
is_first nth all count least None p e = λ k below.
    let here : k < count = omega (arith, e, below) in
    let up : least ≤ claim_at nth all k = p.below k here in
    let is : least ≡ stays = p.at in
    let most : claim_at nth all k ≤ stays = p.each k here in
    omega (arith, up, is, most)
is_first nth all count least (Some i) p e = record {
  there = omega (arith, p.at.0, e);
  goes = omega (arith, p.at.1, p.at.2);
  least = λ k below. (let here : k < count = omega (arith, e, below) in let up : least ≤ claim_at nth all k = p.below k here in omega (arith, up, p.at.1));
  first = λ k below. (let up : least < claim_at nth all k = p.at.3 k below in omega (arith, up, p.at.1));
}
