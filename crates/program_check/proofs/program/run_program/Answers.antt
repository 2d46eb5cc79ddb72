use Rattle.std.proofs.Common.{ℕ, List, subst}
use Rattle.base_streams.specs.Streams.{Wrote}
use Rattle.base_text.specs.Printed.{Told}
use Rattle.program_parts.specs.declared.program_fault.ProgramFault.{ProgramFault}
use Rattle.program_check.specs.FaultLines.{check_fault_line}
use Rattle.program_check.specs.Faults.{GivesUp}
use Rattle.program_check.specs.Judgements.{ComesTo}
use Rattle.program_check.specs.declared.fault.CheckFault.{CheckFault}
use Rattle.program_check.proofs.Causes.{is_usage}
use Rattle.program_parts.proofs.Endings.{came_to, gave_up, must_give_up}
use Rattle.program_check.proofs.Judging.{no_fault}
use Rattle.program_check.proofs.program.run_program.Goals as goal

pub returns-clause-judged : goal.returns-clause-judged
returns-clause-judged g c not =
    (came_to c.judge.result c.exit_status.result _ _
    (λ s. (line : List ℕ) × ComesTo c.args.words.now (g.R.Read.remaining c.args.stdin) s line × Wrote (g.W.Sink.text c.args.out.now) (g.W.Sink.text c.judge.new.out) line)
    c.exit_status.ensures.done c.exit_status.ensures.told c.judge.ensures.judged not).0

pub returns-clause-told : goal.returns-clause-told
returns-clause-told g c two =
    gave_up c.judge.result c.exit_status.result _ _
    (λ s. (line : List ℕ) × ComesTo c.args.words.now (g.R.Read.remaining c.args.stdin) s line × Wrote (g.W.Sink.text c.args.out.now) (g.W.Sink.text c.judge.new.out) line)
    (λ f. GivesUp c.args.words.now (g.R.Read.remaining c.args.stdin) f g.W.Sink.text g.W.Sink.failed c.args.out.now c.judge.new.out)
    c.exit_status.ensures.done c.exit_status.ensures.told c.judge.ensures.judged (λ s is. no_fault is.1.committee is.1.verdict s is.0 is.1.judgement) c.judge.ensures.given_up two

pub returns-clause-usage : goal.returns-clause-usage
returns-clause-usage g c usage =
    let up = must_give_up c.judge.result c.exit_status.result _ _
    (λ s. (line : List ℕ) × ComesTo c.args.words.now (g.R.Read.remaining c.args.stdin) s line × Wrote (g.W.Sink.text c.args.out.now) (g.W.Sink.text c.judge.new.out) line)
    (λ f. GivesUp c.args.words.now (g.R.Read.remaining c.args.stdin) f g.W.Sink.text g.W.Sink.failed c.args.out.now c.judge.new.out)
    c.exit_status.ensures.done c.exit_status.ensures.told c.judge.ensures.judged (λ s is. is.1.texts.asked usage) c.judge.ensures.given_up in (
      up.0,
      subst (λ (f : ProgramFault CheckFault). Told (g.E.Sink.text c.args.faults.now) (g.E.Sink.text c.exit_status.new.faults) (g.E.Sink.failed c.args.faults.now) (g.E.Sink.failed c.exit_status.new.faults) (check_fault_line f))
          (is_usage c.args.words.now (g.R.Read.remaining c.args.stdin) up.1.0 usage up.1.1.cause) up.1.2,
    )
