use Rattle.std.proofs.Common.{rules}
use Rattle.std.proofs.lemmas.Fn.{always_returns_same}
use Rattle.std.proofs.lemmas.List.Sorted.{Contains-permutation, IsPermutation-sym}
use Rattle.blocks.specs.Headers.{header_id}
use Rattle.audit_commits.proofs.Orders.{rising_from_sorted}
use Rattle.audit_commits.proofs.commits.sort_blocks.Goals as goal

pub returns-clause-rising : goal.returns-clause-rising
returns-clause-rising c =
    rising_from_sorted c.args.blocks.now.items c.sort_unstable_by_key.new.self.items c.requires c.sort_unstable_by_key.ensures.permutation
    (c.sort_unstable_by_key.ensures.sorted (λ h. (h.view, header_id h)) (always_returns_same _ _ _ (λ a r f called. search rules)))

pub returns-clause-same : goal.returns-clause-same
returns-clause-same c b =
    let moved = c.sort_unstable_by_key.ensures.permutation in
    let old = c.args.blocks.now.items in
    let new = c.sort_unstable_by_key.new.self.items in
    (Contains-permutation new old b (IsPermutation-sym old new moved), Contains-permutation old new b moved)
