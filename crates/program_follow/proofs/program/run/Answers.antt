use Rattle.std.proofs.Common.{subst}
use Rattle.program_parts.proofs.Endings.{handed_on}
use Rattle.program_follow.specs.Words.{AskFor, outs_in, path_in}
use Rattle.program_follow.specs.declared.words.Words.{Words}
use Rattle.program_follow.proofs.Steps.{given_up_over, printed_over, usage_cut}
use Rattle.program_follow.proofs.program.run.Goals as goal

pub returns-in_err-write_out-in-Usage-clause-given_up :
    goal.returns-in_err-write_out-in-Usage-clause-given_up
returns-in_err-write_out-in-Usage-clause-given_up g c =
    let none = subst (λ (w : Words). AskFor c.args.words.now w) c.in-Usage.is c.in_ok-read_words.ensures.read in
    let why = c.in_err-write_out-in-Usage.ensures in
    handed_on c.from_residual-in_err-write_out-in-Usage.result _ c.in_err-write_out-in-Usage.field-0.0 c.from_residual-in_err-write_out-in-Usage.ensures.1
    (usage_cut _ c.args.words.now c.in_err-write_out-in-Usage.field-0.0 g.W.Sink.text g.W.Sink.failed c.args.out.now c.write_out.new.out none why.refused why.err why.counted)

pub returns-in-Step-clause-printed : goal.returns-in-Step-clause-printed
returns-in-Step-clause-printed g c =
    let step = c.in-Step.step in
    let ask = subst (λ (w : Words). AskFor c.args.words.now w) c.in-Step.is c.in_ok-read_words.ensures.read in
    printed_over _ c.args.words.now step.old.now step.new.now step.sources.items (path_in step.renewal) (outs_in step.proof step.light) c.take_step.result _ _ ask c.take_step.ensures.printed

pub returns-in-Step-clause-given_up : goal.returns-in-Step-clause-given_up
returns-in-Step-clause-given_up g c =
    let step = c.in-Step.step in
    let ask = subst (λ (w : Words). AskFor c.args.words.now w) c.in-Step.is c.in_ok-read_words.ensures.read in
    given_up_over _ c.args.words.now step.old.now step.new.now step.sources.items (path_in step.renewal) (outs_in step.proof step.light) c.take_step.result g.W.Sink.text g.W.Sink.failed c.args.out.now c.take_step.new.out ask c.take_step.ensures.given_up
