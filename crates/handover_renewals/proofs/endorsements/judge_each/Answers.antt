use Rattle.std.proofs.Common.{[], List, ℕ, subst, sym, ◌∙◌, arith}
use Rattle.std.specs.List.{All}
use Rattle.std.proofs.lemmas.List.Elements.{All-nil}
use Rattle.base_wire.specs.Pieces.{AreBytes}
use Rattle.handover_keys.specs.EndorsementChecks.{IsEndorsementRefusal}
use Rattle.handover_keys.specs.Endorsements.{IsGoodEndorsement}
use Rattle.handover_renewals.specs.Endorsed.{AreGood}
use Rattle.handover_renewals.proofs.Endorsing.{all_more, length-texts_of, taken_all, text_at}
use Rattle.handover_renewals.proofs.endorsements.judge_each.Goals as goal

pub loop-place-init : goal.loop-place-init
loop-place-init c = record { good = All-nil (IsGoodEndorsement c.args.old.now); bytes = All-nil AreBytes }

pub returns-in-Err-clause-first_refusal : goal.returns-in-Err-clause-first_refusal
returns-in-Err-clause-first_refusal c = record {
  there = omega (arith, length-texts_of c.args.endorsements.now);
  before = c.loop-place.invariant.good;
  refused =
      subst (λ (e : List ℕ). IsEndorsementRefusal c.args.old.now e c.in-Err.refusal)
      (c.deref.ensures.value ∙ sym (text_at c.args.endorsements.now c.loop-place.place [] c.index-endorsements-place.result c.loop-place-test.true c.index-endorsements-place.is))
      c.in-Err.ensures.first_refusal;
}

pub loop-place-preserved : goal.loop-place-preserved
loop-place-preserved c = record {
  good =
      all_more (IsGoodEndorsement c.args.old.now) c.args.endorsements.now c.loop-place.place c.index-endorsements-place.result c.deref.result.now
      c.loop-place-test.true c.index-endorsements-place.is c.deref.ensures.value c.loop-place.invariant.good c.in_default.ensures.ok;
  bytes =
      all_more AreBytes c.args.endorsements.now c.loop-place.place c.index-endorsements-place.result c.deref.result.now
      c.loop-place-test.true c.index-endorsements-place.is c.deref.ensures.value c.loop-place.invariant.bytes c.in_default.ensures.bytes;
}

pub returns-clause-ok : goal.returns-clause-ok
returns-clause-ok c = subst (AreGood c.args.old.now) (taken_all c.args.endorsements.now c.loop-place.place c.loop-place-test.false) c.loop-place.invariant.good

pub returns-clause-bytes : goal.returns-clause-bytes
returns-clause-bytes c = subst (All AreBytes) (taken_all c.args.endorsements.now c.loop-place.place c.loop-place-test.false) c.loop-place.invariant.bytes
