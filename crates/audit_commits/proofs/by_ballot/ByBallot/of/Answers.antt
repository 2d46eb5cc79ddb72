use Rattle.std.proofs.Common.{◌≡◌, List, map, rules, subst, sym}
use Rattle.std.specs.List.{Contains}
use Rattle.std.proofs.lemmas.Fn.{always_returns_same}
use Rattle.std.proofs.lemmas.List.Sorted.{Contains-permutation, IsPermutation-sym}
use Rattle.audit_commits.specs.Casts.{cast_of}
use Rattle.audit_commits.specs.declared.by_ballot.Cast.{Cast}
use Rattle.audit_commits.proofs.Ballots.{key_of}
use Rattle.audit_commits.proofs.by_ballot.ByBallot.of.Goals as goal

pub invariant_of-result : goal.invariant_of-result
invariant_of-result c = c.sort_unstable_by_key.ensures.sorted key_of (always_returns_same _ _ _ (λ a r f called. search rules))

pub returns : goal.returns
returns c =
    let moved = c.sort_unstable_by_key.ensures.permutation in
    let copied = c.in_ok-casts.casts.items in
    let new = c.sort_unstable_by_key.new.self.items in
    let same : copied ≡ map cast_of c.args.votes.now = search rules in
    λ x. (
      λ there. subst (λ (xs : List Cast). Contains xs x) same (Contains-permutation new copied x (IsPermutation-sym copied new moved) there),
      λ there. Contains-permutation copied new x moved (subst (λ (xs : List Cast). Contains xs x) (sym same) there),
    )
