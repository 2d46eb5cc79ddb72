use Rattle.std.proofs.Common.{rules, ◌≡◌, ◌<◌, true, length, subst, arith}
use Rattle.std.specs.List.{All}
use Rattle.std.proofs.lemmas.List.{take_all}
use Rattle.std.proofs.lemmas.List.Elements.{All-more}
use Rattle.replica_backups.specs.OwnVotes.{IsFamiliar}
use Rattle.replica_backups.proofs.guard.first_foreign_vote.Goals as goal

pub loop-k-preserved : goal.loop-k-preserved
loop-k-preserved c =
    let yes : c.is_familiar.result ≡ true = search rules in
    let within : c.loop-k.k < length c.args.votes.now = omega (arith, c.loop-k-test.true) in
    All-more (IsFamiliar c.args.replica c.args.own.now) c.args.votes.now c.loop-k.k _ within c.loop-k.invariant (c.is_familiar.ensures.yes yes)

pub returns : goal.returns
returns c = subst (All (IsFamiliar c.args.replica c.args.own.now)) (take_all c.loop-k.k c.args.votes.now (omega (arith, c.loop-k-test.false))) c.loop-k.invariant
