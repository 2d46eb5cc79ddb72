use Rattle.std.proofs.Common.{List, ℕ, subst, sym}
use Rattle.program_parts.proofs.Endings.{handed_on}
use Rattle.program_follow.specs.Followings.{IsFollowing}
use Rattle.program_follow.specs.Outputs.{IsReportOf, step_text}
use Rattle.program_follow.specs.RenewalLines.{AreLinesOn}
use Rattle.program_follow.specs.Words.{outs_in, path_in}
use Rattle.program_follow.proofs.Printing.{print_failed}
use Rattle.program_follow.proofs.Steps.{comes_to, evidence_given_up}
use Rattle.program_follow.proofs.program.follow_sources.Goals as goal

pub returns-in_err-evidence-clause-given_up : goal.returns-in_err-evidence-clause-given_up
returns-in_err-evidence-clause-given_up g c =
    handed_on c.from_residual.result _ c.in_err-evidence.field-0.0 c.from_residual.ensures.1
    (evidence_given_up _ c.args.old.now (path_in c.args.step.now.renewal) _ c.args.step.now.sources.items c.deref.result.now c.in_err-evidence.field-0.0 g.W.Sink.text g.W.Sink.failed c.args.out.now c.requires.next.old_is c.deref.ensures.value c.in_err-evidence.ensures.refused)

pub returns-in_err-print-clause-given_up : goal.returns-in_err-print-clause-given_up
returns-in_err-print-clause-given_up g c =
    let e = c.in_ok-evidence.evidence in
    let r = c.in_ok-report.report in
    let f = c.in_ok-following.following in
    handed_on c.from_residual-in_err-print.result _ c.in_err-print.field-0.0 c.from_residual-in_err-print.ensures.1
    (print_failed _ _ c.in_err-print.field-0.0 g.W.Sink.text g.W.Sink.failed c.args.out.now c.print.new.out _ _ c.in_err-print.ensures.refused c.in_err-print.ensures.counted (c.args.old.now, c.requires.next.old_is, tt)
    (comes_to _ c.args.old.now c.args.new.now (path_in c.args.step.now.renewal) c.args.step.now.sources.items c.deref.result.now e r f c.args.renewal.now c.deref-2.result.now c.requires.next c.deref.ensures.value c.in_ok-evidence.ensures.shown
    (record { audit = c.in_ok-report.ensures.ok; accepted = c.in_ok-report.ensures.accepted; more_than_a_third = c.in_ok-report.ensures.more_than_a_third })
    (subst (λ (file : List ℕ). IsFollowing e file f) c.bytes.ensures.text c.in_ok-following.ensures) c.requires.read (subst (λ (t : List ℕ). AreLinesOn c.args.old.now c.args.new.now c.args.renewal.now t) (sym c.deref-2.ensures.value) c.in_ok-judged.ensures)))

pub returns-clause-printed : goal.returns-clause-printed
returns-clause-printed g c =
    let e = c.in_ok-evidence.evidence in
    let r = c.in_ok-report.report in
    let f = c.in_ok-following.following in
    let is_report : IsReportOf e r = record { audit = c.in_ok-report.ensures.ok; accepted = c.in_ok-report.ensures.accepted; more_than_a_third = c.in_ok-report.ensures.more_than_a_third } in
    let is_following : IsFollowing e c.args.new.now f = subst (λ (file : List ℕ). IsFollowing e file f) c.bytes.ensures.text c.in_ok-following.ensures in
    rw c.status.ensures (
      step_text e.sources r f c.deref-2.result.now,
      comes_to _ c.args.old.now c.args.new.now (path_in c.args.step.now.renewal) c.args.step.now.sources.items c.deref.result.now e r f c.args.renewal.now c.deref-2.result.now c.requires.next c.deref.ensures.value c.in_ok-evidence.ensures.shown is_report is_following c.requires.read (subst (λ (t : List ℕ). AreLinesOn c.args.old.now c.args.new.now c.args.renewal.now t) (sym c.deref-2.ensures.value) c.in_ok-judged.ensures),
      c.in_ok-print.ensures.ok,
    )
