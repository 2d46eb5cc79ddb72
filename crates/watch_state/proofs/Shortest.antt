-- The run with the fewest bytes among the first ones.
use Rattle.std.proofs.Common.{◌≡◌, ℕ, ◌+◌, ◌<◌, ◌≤◌, List, length, Option, Some, None, arith, below_more, inl, inr, sym}
use Rattle.std.specs.Prelude.{MatchOption}
use Rattle.watch_state.specs.Joins.{IsRun, IsShortestRun, bytes_of, joined, most_of_a_part, run_at}
use Rattle.watch_state.specs.Runs.{IsCost, no_run}
use Rattle.watch_state.specs.declared.name.PartFile.{PartFile}

abbrev pub cost_at : List PartFile → ℕ → ℕ
cost_at parts i = bytes_of (run_at parts i)

abbrev pub IsAt : List PartFile → ℕ → ℕ → Option ℕ → Type 0
IsAt parts count least (Some i) = (i < count) × IsRun parts i × (cost_at parts i ≡ least) × ((k : ℕ) → k < i → IsRun parts k → least < cost_at parts k)
IsAt parts count least None = (least ≡ no_run) × ((k : ℕ) → k < count → IsRun parts k → ⊥)

-- of the first so many
pub record IsPlace (parts : List PartFile) (count least : ℕ) (place : Option ℕ) : Type 0 where
  pub most : least ≤ no_run
  pub below : (k : ℕ) → k < count → IsRun parts k → least ≤ cost_at parts k
  pub found : IsAt parts count least place

-- fewer bytes: it is a run, and the first with so few
pub less : (parts : List PartFile) (i least cost : ℕ) (place : Option ℕ) → IsPlace parts i least place → IsCost parts i cost → cost < least
    → IsPlace parts (i + 1) cost (Some i)
less parts i least cost place p (inl run) fewer = record {
  most = (let most = p.most in omega (arith, fewer, most));
  below = below_more (λ k. IsRun parts k → cost ≤ cost_at parts k) i
      (λ k low is. let old : least ≤ cost_at parts k = p.below k low is in omega (arith, old, fewer))
      (λ _. let same : cost ≡ cost_at parts i = run.1 in omega (arith, same));
  found = (omega arith, run.0, sym run.1, λ k low is. let old : least ≤ cost_at parts k = p.below k low is in omega (arith, old, fewer));
}
less parts i least cost place p (inr none) fewer =
    let most : least ≤ no_run = p.most in
    let never : cost ≡ no_run = none.1 in
    absurd (omega (arith, never, fewer, most))

-- not fewer
pub not_less : (parts : List PartFile) (i least cost : ℕ) (place : Option ℕ) → IsPlace parts i least place → IsCost parts i cost → least ≤ cost
    → IsPlace parts (i + 1) least place
not_less parts i least cost place p c more = record {
  most = p.most;
  below = below_more (λ k. IsRun parts k → least ≤ cost_at parts k) i p.below (up c);
  found = stays place p.found;
} where
  up : IsCost parts i cost → IsRun parts i → least ≤ cost_at parts i
  up (inl run) is = let same : cost ≡ cost_at parts i = run.1 in omega (arith, same, more)
  up (inr none) is = absurd (none.0 is)

  none_here : least ≡ no_run → IsCost parts i cost → IsRun parts i → ⊥
  none_here never (inl run) is =
      let same : cost ≡ cost_at parts i = run.1 in
      let fits : cost_at parts i ≤ most_of_a_part = is.fits in
      omega (arith, same, more, never, fits)
  none_here never (inr none) is = none.0 is

  stays : (place : Option ℕ) → IsAt parts i least place → IsAt parts (i + 1) least place
  stays (Some j) there = (let low : j < i = there.0 in omega (arith, low), there.1, there.2, there.3)
  stays None there = (there.0, below_more (λ k. IsRun parts k → ⊥) i there.1 (none_here there.0 c))

-- a run begins below the last places
within : (parts : List PartFile) (count k : ℕ) → length parts < count + joined → IsRun parts k → k < count
within parts count k all is = let there : k + joined ≤ length parts = is.there in omega (arith, all, there)

-- of all there are
pub is_shortest : (parts : List PartFile) (count least : ℕ) (place : Option ℕ) → IsPlace parts count least place → length parts < count + joined
    → MatchOption place ((k : ℕ) → IsRun parts k → ⊥) (IsShortestRun parts)
is_shortest parts count least None p all = λ k is. p.found.1 k (within parts count k all is) is
is_shortest parts count least (Some i) p all = record {
  run = p.found.1;
  least = λ k is. (let few : least ≤ cost_at parts k = p.below k (within parts count k all is) is in let same : cost_at parts i ≡ least = p.found.2 in omega (arith, few, same));
  first = λ k low is. (let few : least < cost_at parts k = p.found.3 k low is in let same : cost_at parts i ≡ least = p.found.2 in omega (arith, few, same));
}
