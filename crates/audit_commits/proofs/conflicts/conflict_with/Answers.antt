use Rattle.std.proofs.Common.{sym, subst, arith}
use Rattle.std.specs.List.{All, Contains}
use Rattle.std.proofs.lemmas.List.{take_all}
use Rattle.ancestry.specs.Known.{all_of}
use Rattle.audit_commits.specs.Pairs.{Agree}
use Rattle.audit_commits.proofs.ConflictFacts.{least_at}
use Rattle.audit_commits.proofs.conflicts.conflict_with.Goals as goal

pub do_conflict-requires-clause-second : goal.do_conflict-requires-clause-second
do_conflict-requires-clause-second c =
    let b = c.b-item.result in
    subst (Contains (all_of c.args.chains.now)) (sym c.b-item.is) (c.requires.others c.loop-b.b-index b c.loop-b-test.true)

pub returns-then-do_conflict : goal.returns-then-do_conflict
returns-then-do_conflict c =
    least_at c.args.chains.now c.args.a.now c.args.blocks.now c.loop-b.b-index c.b-item.result c.requires.rising c.loop-b-test.true c.b-item.is c.loop-b.invariant (c.do_conflict.ensures.0 c.if-do_conflict.true)

pub returns : goal.returns
returns c = subst (All (Agree c.args.chains.now c.args.a.now)) (take_all c.loop-b.b-index c.args.blocks.now (omega (arith, c.loop-b-test.false))) c.loop-b.invariant
