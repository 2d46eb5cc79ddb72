use Rattle.std.proofs.Common.{◌≡◌, ◌-◌, List, length, take, drop, sym, subst, arith}
use Rattle.std.specs.List.{All, AllPairs, Contains}
use Rattle.std.proofs.lemmas.List.Elements.{All-drop, All-tail}
use Rattle.blocks.specs.Headers.{Header}
use Rattle.ancestry.specs.Known.{all_of}
use Rattle.audit_commits.specs.Commits.{IsLowerBlock}
use Rattle.audit_commits.specs.Pairs.{Agree, AreFirstIn}
use Rattle.audit_commits.proofs.ConflictFacts.{split, rises_later, none_before, found_here, found_later}
use Rattle.audit_commits.proofs.OneChain.{all_behind, rises_behind, none_behind_trunk, found_behind_trunk}
use Rattle.audit_commits.proofs.conflicts.first_pair.Goals as goal

pub loop-rest-init : goal.loop-rest-init
loop-rest-init c =
    let known = c.args.chains.now in
    let bs = c.args.blocks.now in
    let n = c.trunk_length.result in
    let trunk = c.trunk_length.ensures.trunk in
    let all : take (length bs - n) (drop n bs) ≡ drop n bs = all_behind bs n in
    record {
      there = subst (All (Contains (all_of known))) (sym all) (All-drop (Contains (all_of known)) n bs c.requires.there);
      rising = subst (AllPairs IsLowerBlock) (sym all) (rises_behind bs n c.requires.rising);
      none = λ none. none_behind_trunk known bs n trunk (subst (AllPairs (Agree known)) all none);
      found = λ a b found. found_behind_trunk known bs n a b c.requires.rising trunk (subst (λ (xs : List Header). AreFirstIn known xs a b) all found);
    }

pub conflict_with-requires-clause-first : goal.conflict_with-requires-clause-first
conflict_with-requires-clause-first c =
    let x = c.first-item.result in
    subst (Contains (all_of c.args.chains.now)) (sym c.first-item.is) (c.loop-rest.invariant.there 0 x (omega (arith, c.in-len1-up.len_at_least)))

pub conflict_with-requires-clause-others : goal.conflict_with-requires-clause-others
conflict_with-requires-clause-others c =
    let known = c.args.chains.now in
    let x = c.first-item.result in
    All-tail (Contains (all_of known)) x _ (subst (All (Contains (all_of known))) (split c.loop-rest.rest.now x c.in-len1-up.len_at_least c.first-item.is) c.loop-rest.invariant.there)

pub conflict_with-requires-clause-rising : goal.conflict_with-requires-clause-rising
conflict_with-requires-clause-rising c =
    let x = c.first-item.result in
    rises_later x _ (subst (AllPairs IsLowerBlock) (split c.loop-rest.rest.now x c.in-len1-up.len_at_least c.first-item.is) c.loop-rest.invariant.rising)

pub returns-in-Some : goal.returns-in-Some
returns-in-Some c =
    let known = c.args.chains.now in
    let rest = c.loop-rest.rest.now in
    let x = c.first-item.result in
    let b = c.in-Some.second in
    let is = split rest x c.in-len1-up.len_at_least c.first-item.is in
    c.loop-rest.invariant.found x b (subst (λ (xs : List Header). AreFirstIn known xs x b) (sym is) (found_here known x _ b (subst (AllPairs IsLowerBlock) is c.loop-rest.invariant.rising) c.in-Some.ensures))

pub loop-rest-preserved : goal.loop-rest-preserved
loop-rest-preserved c =
    let known = c.args.chains.now in
    let rest = c.loop-rest.rest.now in
    let x = c.first-item.result in
    let inv = c.loop-rest.invariant in
    let is = split rest x c.in-len1-up.len_at_least c.first-item.is in
    let rising = subst (AllPairs IsLowerBlock) is inv.rising in
    let none = c.in_default-conflict_with.ensures in
    record {
      there = All-tail (Contains (all_of known)) x _ (subst (All (Contains (all_of known))) is inv.there);
      rising = rises_later x _ rising;
      none = λ others. inv.none (subst (AllPairs (Agree known)) (sym is) (none_before known x _ none others));
      found = λ a b f. inv.found a b (subst (λ (xs : List Header). AreFirstIn known xs a b) (sym is) (found_later known x _ a b rising none f));
    }
