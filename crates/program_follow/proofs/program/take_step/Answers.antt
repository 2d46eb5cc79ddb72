use Rattle.std.proofs.Common.{refl}
use Rattle.program_parts.proofs.Endings.{handed_on}
use Rattle.program_follow.specs.Words.{outs_in, path_in}
use Rattle.program_follow.proofs.NextFaults.{next_given_up, renewal_given_up}
use Rattle.program_follow.proofs.Steps.{step_given_up}
use Rattle.program_follow.proofs.program.take_step.Goals as goal

pub returns-clause-printed : goal.returns-clause-printed
returns-clause-printed g c = c.follow_sources.ensures.printed

pub returns-clause-given_up : goal.returns-clause-given_up
returns-clause-given_up g c =
    step_given_up _ c.args.step.now.old.now c.args.step.now.new.now (path_in c.args.step.now.renewal) (outs_in c.args.step.now.proof c.args.step.now.light) c.args.step.now.sources.items c.args.step.now.sources.items c.follow_sources.result g.W.Sink.text g.W.Sink.failed c.args.out.now c.follow_sources.new.out refl
    c.follow_sources.ensures.given_up

pub returns-in_err-new-clause-given_up : goal.returns-in_err-new-clause-given_up
returns-in_err-new-clause-given_up g c =
    handed_on c.from_residual-in_err-new.result _ c.in_err-new.field-0.0 c.from_residual-in_err-new.ensures.1
    (next_given_up _ c.args.step.now.old.now c.args.step.now.new.now (path_in c.args.step.now.renewal) (outs_in c.args.step.now.proof c.args.step.now.light) c.args.step.now.sources.items c.in_ok-old.old c.deref-2.result.now c.in_err-new.field-0.0 g.W.Sink.text g.W.Sink.failed c.args.out.now
    c.in_err-new.ensures.committee c.in_err-new.ensures.refused)

pub returns-in_err-renewal-clause-given_up : goal.returns-in_err-renewal-clause-given_up
returns-in_err-renewal-clause-given_up g c =
    handed_on c.from_residual-in_err-renewal.result _ c.in_err-renewal.field-0.0 c.from_residual-in_err-renewal.ensures.1
    (renewal_given_up _ c.args.step.now.old.now c.args.step.now.new.now (path_in c.args.step.now.renewal) (outs_in c.args.step.now.proof c.args.step.now.light) c.args.step.now.sources.items c.in_err-renewal.field-0.0 g.W.Sink.text g.W.Sink.failed c.args.out.now c.in_err-renewal.ensures.refused)
