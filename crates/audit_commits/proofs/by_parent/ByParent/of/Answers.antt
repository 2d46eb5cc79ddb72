use Rattle.std.proofs.Common.{◌≡◌, List, rules, subst, sym}
use Rattle.std.specs.List.{Contains}
use Rattle.std.proofs.lemmas.Fn.{always_returns_same}
use Rattle.std.proofs.lemmas.List.Sorted.{Contains-permutation, IsPermutation-sym}
use Rattle.blocks.specs.Headers.{Header}
use Rattle.audit_commits.proofs.by_parent.ByParent.of.Goals as goal

pub invariant_of-result : goal.invariant_of-result
invariant_of-result c = c.sort_unstable_by_key.ensures.sorted (λ (h : Header). h.parent) (always_returns_same _ _ _ (λ a r f called. search rules))

pub returns : goal.returns
returns c =
    let moved = c.sort_unstable_by_key.ensures.permutation in
    let copied = c.in_ok-sorted.sorted.items in
    let new = c.sort_unstable_by_key.new.self.items in
    let same : copied ≡ c.args.headers.now = search rules in
    λ h. (
      λ there. subst (λ (xs : List Header). Contains xs h) same (Contains-permutation new copied h (IsPermutation-sym copied new moved) there),
      λ there. Contains-permutation copied new h moved (subst (λ (xs : List Header). Contains xs h) (sym same) there),
    )
