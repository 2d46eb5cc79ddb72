use Rattle.std.proofs.Common.{◌≡◌, ◌≢◌, ◌∙◌, List, ℕ, Some, ap, sym}
use Rattle.handover_keys.specs.Endorsements.{statement_in}
use Rattle.handover_keys.specs.NextKeys.{replica_in}
use Rattle.handover_keys.specs.NextKeysReading.{IsStatement}
use Rattle.handover_renewals.specs.Endorsed.{endorsement_of, replica_of}
use Rattle.handover_renewals.proofs.Endorsing.{all_at, found_by, none_of_none, passed_by, taken_all}
use Rattle.handover_renewals.proofs.endorsed.endorsement_of.Goals as goal

pub loop-bytes-init : goal.loop-bytes-init
loop-bytes-init c = none_of_none c.args.s

pub view_of-endorsement-requires : goal.view_of-endorsement-requires
view_of-endorsement-requires c =
    all_at (λ e. IsStatement (statement_in e)) c.args.endorsements.now c.loop-bytes.bytes-index c.bytes-item.result c.deref.result.now
    c.requires c.loop-bytes-test.true c.bytes-item.is c.deref.ensures.value

pub returns-then-replica-s : goal.returns-then-replica-s
returns-then-replica-s c =
    let of : replica_of c.deref.result.now ≡ c.args.s =
    ap replica_of (sym c.view_of-endorsement.ensures) ∙ ap replica_in (sym c.statement.ensures) ∙ sym c.replica.ensures ∙ c.if-replica-s.true in
    ap (λ (e : List ℕ). Some e) c.view_of-endorsement.ensures
    ∙ found_by c.args.endorsements.now c.loop-bytes.bytes-index c.args.s c.bytes-item.result c.deref.result.now c.loop-bytes-test.true c.bytes-item.is c.deref.ensures.value
    c.loop-bytes.invariant of

pub loop-bytes-preserved : goal.loop-bytes-preserved
loop-bytes-preserved c =
    let other : replica_of c.deref.result.now ≢ c.args.s =
    λ of. c.if-replica-s.false (c.replica.ensures ∙ ap replica_in c.statement.ensures ∙ ap replica_of c.view_of-endorsement.ensures ∙ of) in
    passed_by c.args.endorsements.now c.loop-bytes.bytes-index c.args.s c.bytes-item.result c.deref.result.now c.loop-bytes-test.true c.bytes-item.is c.deref.ensures.value
    c.loop-bytes.invariant other

pub returns : goal.returns
returns c =
    sym (sym (ap (λ (es : List (List ℕ)). endorsement_of es c.args.s) (taken_all c.args.endorsements.now c.loop-bytes.bytes-index c.loop-bytes-test.false)) ∙ c.loop-bytes.invariant)
