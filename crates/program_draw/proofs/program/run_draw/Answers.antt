use Rattle.std.proofs.Common.{◌≡◌, ℕ, List, inl, inr, subst, arith}
use Rattle.base_streams.specs.Streams.{Wrote}
use Rattle.base_text.specs.Printed.{Told}
use Rattle.program_draw.specs.Faults.{GivesUp}
use Rattle.program_draw.specs.Outputs.{IsOutput}
use Rattle.program_draw.proofs.Causes.{is_usage, output_is_no_usage}
use Rattle.program_parts.proofs.Endings.{came_to, ends, gave_up, must_give_up}
use Rattle.program_draw.proofs.program.run_draw.Goals as goal

pub returns-clause-status : goal.returns-clause-status
returns-clause-status g c =
    elim (ends c.run.result c.exit_status.result _ _
    (λ s. (s ≡ 0) × ((text : List ℕ) × IsOutput c.args.words.now text × Wrote (g.W.Sink.text c.args.out.now) (g.W.Sink.text c.run.new.out) text))
    c.exit_status.ensures.done c.exit_status.ensures.told c.run.ensures.drawn) [ inl is ↦ inl is.0 | inr two ↦ inr two ]

pub returns-clause-drawn : goal.returns-clause-drawn
returns-clause-drawn g c not =
    (came_to c.run.result c.exit_status.result _ _
    (λ s. (s ≡ 0) × ((text : List ℕ) × IsOutput c.args.words.now text × Wrote (g.W.Sink.text c.args.out.now) (g.W.Sink.text c.run.new.out) text))
    c.exit_status.ensures.done c.exit_status.ensures.told c.run.ensures.drawn not).0.1

pub returns-clause-told : goal.returns-clause-told
returns-clause-told g c two =
    gave_up c.run.result c.exit_status.result _ _
    (λ s. (s ≡ 0) × ((text : List ℕ) × IsOutput c.args.words.now text × Wrote (g.W.Sink.text c.args.out.now) (g.W.Sink.text c.run.new.out) text))
    (λ f. GivesUp c.args.words.now f g.W.Sink.text g.W.Sink.failed c.args.out.now c.run.new.out)
    c.exit_status.ensures.done c.exit_status.ensures.told c.run.ensures.drawn (λ s is two'. omega (arith, is.0, two')) c.run.ensures.given_up two

pub returns-clause-usage : goal.returns-clause-usage
returns-clause-usage g c usage =
    let up = must_give_up c.run.result c.exit_status.result _ _
    (λ s. (s ≡ 0) × ((text : List ℕ) × IsOutput c.args.words.now text × Wrote (g.W.Sink.text c.args.out.now) (g.W.Sink.text c.run.new.out) text))
    (λ f. GivesUp c.args.words.now f g.W.Sink.text g.W.Sink.failed c.args.out.now c.run.new.out)
    c.exit_status.ensures.done c.exit_status.ensures.told c.run.ensures.drawn (λ s is. output_is_no_usage c.args.words.now is.1.0 usage is.1.1) c.run.ensures.given_up in (
      up.0,
      subst (λ (line : List ℕ). Told (g.E.Sink.text c.args.faults.now) (g.E.Sink.text c.exit_status.new.faults) (g.E.Sink.failed c.args.faults.now) (g.E.Sink.failed c.exit_status.new.faults) line)
          (is_usage c.args.words.now up.1.0 g.W.Sink.text g.W.Sink.failed c.args.out.now c.run.new.out usage up.1.1) up.1.2,
    )
