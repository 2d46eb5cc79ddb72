use Rattle.std.proofs.Common.{rules, List, subst, sym}
use Rattle.std.proofs.lemmas.List.Sorted.{IsNonDecreasingBy-from_sort_by_key}
use Rattle.blocks.specs.Headers.{Header}
use Rattle.blocks.specs.Chains.{NoCollision}
use Rattle.replica_core.proofs.Linked.{apart_permuted}
use Rattle.replica_core.proofs.restart.by_view.Goals as goal

pub returns-clause-sorted : goal.returns-clause-sorted
returns-clause-sorted c =
    IsNonDecreasingBy-from_sort_by_key (λ h. h.view) _ c.sort_unstable_by_key.ensures.sorted (λ a r q k. search rules)

pub returns-clause-apart : goal.returns-clause-apart
returns-clause-apart c =
    let apart = subst (λ (hs : List Header). NoCollision hs) (sym c.into_headers-headers.ensures.headers) c.into_headers-headers.ensures.apart in
    apart_permuted _ _ c.sort_unstable_by_key.ensures.permutation apart
