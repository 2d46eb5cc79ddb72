use Rattle.std.proofs.Common.{◌-◌, length, drop, arith, length-drop, rules, sym, ◌∙◌}
use Rattle.std.proofs.lemmas.List.{take_all}
use Rattle.handover_folder.specs.State.{said_in}
use Rattle.handover_folder.specs.Words.{Endorsed, IsEndorsement}
use Rattle.handover_folder.proofs.Taken.{endorsement_taken, none_in, none_of, some_in, some_of}
use Rattle.handover_folder.proofs.WordLaws.{endorsement_back}
use Rattle.handover_folder.proofs.said.SaidWords.take_endorsement.Goals.{then-is_some-via-then-is_some, then-is_some-via-else-is_some+then-is_some-2}
use Rattle.handover_folder.proofs.said.SaidWords.take_endorsement.Goals as goal

pub returns-then-is_some-clause-first_refusal : goal.returns-then-is_some-clause-first_refusal
returns-then-is_some-clause-first_refusal c =
    let entry = c.args.entry.now in
    let is : IsEndorsement (drop 1 entry) = search rules in (
      Endorsed (drop 1 entry),
      endorsement_back entry c.requires is,
      λ follows. elim c.then-is_some.branch [
        | then-is_some-via-then-is_some w ↦ some_in (λ v. v.items) c.args.self.now.endorsed (sym c.is_some.ensures ∙ w.if-is_some.true) follows.0
        | then-is_some-via-else-is_some+then-is_some-2 w ↦ some_of c.args.self.now.gone (sym w.is_some-else-is_some.ensures ∙ w.if-is_some-2.true) follows.1
      ],
    )

pub returns-clause-ok : goal.returns-clause-ok
returns-clause-ok c =
    let entry = c.args.entry.now in
    let is : IsEndorsement (drop 1 entry) = search rules in
    endorsement_taken (said_in c.args.self.now) entry c.in_ok-to_vec.field-0.items c.requires is (c.in_ok-to_vec.ensures.items_if_clones_equal (λ x y same. same) ∙ take_all (length entry - 1) (drop 1 entry) (omega (arith, length-drop 1 entry)))
    (none_in (λ v. v.items) c.args.self.now.endorsed (sym c.is_some.ensures ∙ c.if-is_some.false)) (none_of c.args.self.now.gone (sym c.is_some-else-is_some.ensures ∙ c.if-is_some-2.false))
