use Rattle.program_check.specs.Faults.{GivesUp}
use Rattle.program_check.proofs.Causes.{gives_up_cut_short}
use Rattle.program_parts.proofs.Endings.{handed_on}
use Rattle.program_check.proofs.Judging.{comes_to}
use Rattle.program_check.proofs.program.judge.Goals as goal

pub returns-in_err-write_out-clause-given_up : goal.returns-in_err-write_out-clause-given_up
returns-in_err-write_out-clause-given_up g c =
    let words = c.args.words.now in
    let stdin = g.R.Read.remaining c.args.stdin in
    let fault = c.in_err-write_out.field-0.0 in
    let texts = c.in_ok-texts.texts in
    let judgement = c.judge_verdict-judgement in
    let comes = comes_to words stdin texts.committee.items texts.verdict.items c.deref.result.now c.in_ok-committee.committee c.deref-2.result.now judgement.result.status
    judgement.result.line c.as_bytes.result.now c.in_ok-texts.ensures.read c.deref.ensures.value c.in_ok-committee.ensures.found.0 c.deref-2.ensures.value
    c.in_ok-committee.ensures.found.1 judgement.ensures.judged c.as_bytes.ensures in
    handed_on c.from_residual-in_err-write_out.result (λ f. GivesUp words stdin f g.W.Sink.text g.W.Sink.failed c.args.out.now c.write_out.new.out) fault
    c.from_residual-in_err-write_out.ensures.1
    (gives_up_cut_short words stdin fault g.W.Sink.text g.W.Sink.failed c.args.out.now c.write_out.new.out judgement.result.status c.as_bytes.result.now
    c.in_err-write_out.ensures.refused comes c.in_err-write_out.ensures.err (c.in_err-write_out.ensures.counted.0 c.in_err-write_out.ensures.refused))
