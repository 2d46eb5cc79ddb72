use Rattle.std.proofs.Common.{◌≡◌, ◌==◌, ℕ, Bool, List, if◌then◌else◌, inl, inr, sym, subst, ◌∙◌, arith}
use Rattle.base_streams.specs.Streams.{Wrote}
use Rattle.base_text.specs.Printed.{Told}
use Rattle.program_parts.specs.declared.no_fault.NoFault.{NoFault}
use Rattle.program_parts.specs.declared.program_fault.ProgramFault.{ProgramFault}
use Rattle.program_show.specs.FaultLines.{show_fault_line}
use Rattle.program_show.specs.Faults.{GivesUp}
use Rattle.program_show.specs.Showing.{ShowsAll}
use Rattle.program_show.proofs.Causes.{is_usage, no_status_two, shown_status, status_cases}
use Rattle.program_parts.proofs.Endings.{came_to, ends, gave_up, must_give_up}
use Rattle.program_show.proofs.program.run_show.Goals as goal

pub returns-clause-status : goal.returns-clause-status
returns-clause-status g c =
    elim (ends c.run.result c.exit_status.result _ _
    (λ s. (are_whole : Bool) × (text : List ℕ) × (s ≡ (if are_whole then 0 else 1)) × ShowsAll c.args.words.now text are_whole
    × Wrote (g.W.Sink.text c.args.out.now) (g.W.Sink.text c.run.new.out) text)
    c.exit_status.ensures.done c.exit_status.ensures.told c.run.ensures.shown) [ inl is ↦ status_cases is.0 c.exit_status.result is.2 | inr two ↦ inr (inr two) ]

pub returns-clause-shown : goal.returns-clause-shown
returns-clause-shown g c not =
    let is = (came_to c.run.result c.exit_status.result _ _
    (λ s. (are_whole : Bool) × (text : List ℕ) × (s ≡ (if are_whole then 0 else 1)) × ShowsAll c.args.words.now text are_whole
    × Wrote (g.W.Sink.text c.args.out.now) (g.W.Sink.text c.run.new.out) text)
    c.exit_status.ensures.done c.exit_status.ensures.told c.run.ensures.shown not).0 in
    (is.1, subst (λ (b : Bool). ShowsAll c.args.words.now is.1 b) (shown_status is.0 c.exit_status.result is.2) is.3, is.4)

pub returns-clause-told : goal.returns-clause-told
returns-clause-told g c two =
    gave_up c.run.result c.exit_status.result _ _
    (λ s. (are_whole : Bool) × (text : List ℕ) × (s ≡ (if are_whole then 0 else 1)) × ShowsAll c.args.words.now text are_whole
    × Wrote (g.W.Sink.text c.args.out.now) (g.W.Sink.text c.run.new.out) text)
    (λ f. GivesUp c.args.words.now f g.W.Sink.text g.W.Sink.failed c.args.out.now c.run.new.out)
    c.exit_status.ensures.done c.exit_status.ensures.told c.run.ensures.shown (λ s is. no_status_two is.0 s is.2) c.run.ensures.given_up two

pub returns-clause-usage : goal.returns-clause-usage
returns-clause-usage g c usage =
    let up = must_give_up c.run.result c.exit_status.result _ _
    (λ s. (are_whole : Bool) × (text : List ℕ) × (s ≡ (if are_whole then 0 else 1)) × ShowsAll c.args.words.now text are_whole
    × Wrote (g.W.Sink.text c.args.out.now) (g.W.Sink.text c.run.new.out) text)
    (λ f. GivesUp c.args.words.now f g.W.Sink.text g.W.Sink.failed c.args.out.now c.run.new.out)
    c.exit_status.ensures.done c.exit_status.ensures.told c.run.ensures.shown (λ s is. usage is.3.files is.3.path is.3.asked) c.run.ensures.given_up in (
      up.0,
      subst (λ (f : ProgramFault NoFault). Told (g.E.Sink.text c.args.faults.now) (g.E.Sink.text c.exit_status.new.faults) (g.E.Sink.failed c.args.faults.now) (g.E.Sink.failed c.exit_status.new.faults) (show_fault_line f))
          (is_usage c.args.words.now up.1.0 usage up.1.1.cause) up.1.2,
    )
