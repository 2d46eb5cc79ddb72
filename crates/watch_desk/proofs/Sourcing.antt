-- Sources, one more.
use Rattle.std.proofs.Common.{◌≡◌, ◌∙◌, ◌+◌, ◌<◌, ◌++◌, ◌∷◌, zero, suc, ℕ, List, [], length, get_or, take, sym, ap, subst, arith}
use Rattle.std.proofs.lemmas.List.{length-map, length-take-le, map-append, take_more}
use Rattle.std.proofs.lemmas.Option.{none-some, same_Some}
use Rattle.watch_desk.specs.Taking.{AllAt, AreFreshSources, IsFreshSource}
use Rattle.watch_desk.specs.declared.source.SourceKnown.{SourceKnown}

-- what holds of each at its place holds with one more
pub each_and_one_more : {X : Type 0} (Has : ℕ → X → Type 0) (xs : List X) (y : X) → AllAt Has xs → Has (length xs) y → AllAt Has (xs ++ y ∷ [])
each_and_one_more Has [] y each more zero x at = subst (λ z. Has 0 z) (same_Some y x at) more
each_and_one_more Has [] y each more (suc i) x at = absurd (none-some x at)
each_and_one_more Has (z ∷ xs) y each more zero x at = each 0 x at
each_and_one_more Has (z ∷ xs) y each more (suc i) x at = each_and_one_more (λ k. Has (suc k)) xs y (λ k. each (suc k)) more i x at

pub one_source_more : (replicas : List ℕ) (i : ℕ) (sources : List SourceKnown) (s : SourceKnown) → i < length replicas → AreFreshSources (take i replicas) sources → IsFreshSource i s → s.replica ≡ get_or replicas i 0 → AreFreshSources (take (i + 1) replicas) (sources ++ s ∷ [])
one_source_more replicas i sources s there are fresh is =
    let count : length sources ≡ i = sym (length-map sources (λ (t : SourceKnown). t.replica)) ∙ ap length are.of ∙ length-take-le i replicas (omega arith) in
    record {
      of = map-append (λ (t : SourceKnown). t.replica) sources (s ∷ []) ∙ ap (λ (rs : List ℕ). rs ++ s.replica ∷ []) are.of ∙ ap (λ (r : ℕ). take i replicas ++ r ∷ []) is ∙ sym (take_more replicas i 0 there);
      fresh = each_and_one_more IsFreshSource sources s are.fresh (subst (λ k. IsFreshSource k s) (sym count) fresh);
    }
