use Rattle.std.proofs.Common.{◌≡◌, length, subst, sym, ◌∙◌}
use Rattle.std.proofs.lemmas.Bool.{eqb-true}
use Rattle.blocks.specs.Committees.{IsCommittee}
use Rattle.handover_renewals.specs.Endorsed.{texts_of}
use Rattle.handover_renewals.proofs.Endorsing.{length-texts_of}
use Rattle.handover_renewals.proofs.Good.{good_made, too_few_of_none}
use Rattle.handover_renewals.proofs.making.make_renewal.Goals as goal

pub returns-then-is_empty-clause-first_refusal : goal.returns-then-is_empty-clause-first_refusal
returns-then-is_empty-clause-first_refusal c =
    let none : length c.args.endorsements.now ≡ 0 = eqb-true _ _ (sym c.is_empty.ensures ∙ c.if-is_empty.true) in (
      c.requires.passed,
      subst IsCommittee c.requires.file_is c.in_ok-new.ensures.found.1,
      too_few_of_none c.args.old.now (texts_of c.args.endorsements.now) (length-texts_of c.args.endorsements.now ∙ none),
    )

pub judge_slots-requires : goal.judge_slots-requires
judge_slots-requires c =
    good_made c.args.old.now (texts_of c.args.endorsements.now) c.args.file.now c.in_ok-new.new c.in-Ok.renewal c.requires c.in_ok-new.ensures.found.0 c.in-Ok.ensures.ok
