use Rattle.std.proofs.Common.{◌≢◌, subst, ◌∙◌}
use Rattle.std.specs.List.{All}
use Rattle.std.proofs.lemmas.List.Elements.{All-nil}
use Rattle.handover_keys.specs.Endorsements.{statement_in}
use Rattle.handover_keys.specs.NextKeysReading.{IsStatement}
use Rattle.handover_renewals.specs.Endorsed.{replica_of}
use Rattle.handover_renewals.proofs.Endorsing.{all_at, all_more, taken_all}
use Rattle.handover_renewals.proofs.endorsements.place_of.Goals as goal

pub loop-k-init : goal.loop-k-init
loop-k-init c = All-nil (λ e. replica_of e ≢ c.args.replica)

pub replica_of-requires : goal.replica_of-requires
replica_of-requires c =
    all_at (λ e. IsStatement (statement_in e)) c.args.endorsements.now c.loop-k.k c.index-endorsements-k.result c.deref.result.now
    c.requires c.loop-k-test.true c.index-endorsements-k.is c.deref.ensures.value

pub loop-k-preserved : goal.loop-k-preserved
loop-k-preserved c =
    all_more (λ e. replica_of e ≢ c.args.replica) c.args.endorsements.now c.loop-k.k c.index-endorsements-k.result c.deref.result.now
    c.loop-k-test.true c.index-endorsements-k.is c.deref.ensures.value c.loop-k.invariant (λ same. c.if-replica_of-replica.false (c.replica_of.ensures ∙ same))

pub returns-clause-none : goal.returns-clause-none
returns-clause-none c = subst (All (λ e. replica_of e ≢ c.args.replica)) (taken_all c.args.endorsements.now c.loop-k.k c.loop-k-test.false) c.loop-k.invariant
