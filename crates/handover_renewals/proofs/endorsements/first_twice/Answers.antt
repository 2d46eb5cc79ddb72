use Rattle.std.proofs.Common.{subst, arith}
use Rattle.handover_keys.specs.Endorsements.{statement_in}
use Rattle.handover_keys.specs.NextKeysReading.{IsStatement}
use Rattle.handover_renewals.specs.Endorsed.{AreByDifferent}
use Rattle.handover_renewals.proofs.Endorsing.{all_at, different_more, stated_firsts, taken_all, twice_is}
use Rattle.handover_renewals.proofs.endorsements.first_twice.Goals as goal

pub loop-later-init : goal.loop-later-init
loop-later-init c = λ i j d order below same. absurd (omega arith)

pub replica_of-replica-requires : goal.replica_of-replica-requires
replica_of-replica-requires c =
    all_at (λ e. IsStatement (statement_in e)) c.args.endorsements.now c.loop-later.later c.index-endorsements-later.result c.deref.result.now
    c.requires c.loop-later-test.true c.index-endorsements-later.is c.deref.ensures.value

pub place_of-requires : goal.place_of-requires
place_of-requires c = stated_firsts c.args.endorsements.now c.loop-later.later c.requires

pub returns-in-Some-clause-some : goal.returns-in-Some-clause-some
returns-in-Some-clause-some c =
    twice_is c.args.endorsements.now c.in-Some.earlier c.loop-later.later c.replica_of-replica.result c.index-endorsements-later.result c.deref.result.now
    c.loop-later-test.true c.index-endorsements-later.is c.deref.ensures.value c.in-Some.ensures.there c.in-Some.ensures.same c.replica_of-replica.ensures
    c.loop-later.invariant

pub loop-later-preserved : goal.loop-later-preserved
loop-later-preserved c =
    different_more c.args.endorsements.now c.loop-later.later c.replica_of-replica.result c.index-endorsements-later.result c.deref.result.now
    c.loop-later-test.true c.index-endorsements-later.is c.deref.ensures.value c.in_default.ensures.none c.replica_of-replica.ensures c.loop-later.invariant

pub returns-clause-none : goal.returns-clause-none
returns-clause-none c = subst AreByDifferent (taken_all c.args.endorsements.now c.loop-later.later c.loop-later-test.false) c.loop-later.invariant
