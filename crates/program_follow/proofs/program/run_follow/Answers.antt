use Rattle.std.proofs.Common.{ℕ, List, inl, inr, subst}
use Rattle.base_text.specs.Printed.{Told}
use Rattle.program_parts.proofs.Endings.{came_to, ends, gave_up, must_give_up}
use Rattle.program_follow.proofs.Steps.{is_usage, output_is_no_usage, output_status}
use Rattle.program_follow.proofs.program.run_follow.Goals as goal

pub returns-clause-status : goal.returns-clause-status
returns-clause-status g c =
    elim (ends c.run.result c.exit_status.result _ _ _ c.exit_status.ensures.done c.exit_status.ensures.told c.run.ensures.printed) [
      | inl is ↦ output_status _ c.args.words.now c.exit_status.result is.1.0 is.1.1
      | inr two ↦ inr (inr (inl two))
    ]

pub returns-clause-printed : goal.returns-clause-printed
returns-clause-printed g c not = (came_to c.run.result c.exit_status.result _ _ _ c.exit_status.ensures.done c.exit_status.ensures.told c.run.ensures.printed not).0.1

pub returns-clause-told : goal.returns-clause-told
returns-clause-told g c two =
    gave_up c.run.result c.exit_status.result _ _ _ _ c.exit_status.ensures.done c.exit_status.ensures.told c.run.ensures.printed (λ s is. is.0) c.run.ensures.given_up two

pub returns-clause-usage : goal.returns-clause-usage
returns-clause-usage g c usage =
    let up = must_give_up c.run.result c.exit_status.result _ _ _ _ c.exit_status.ensures.done c.exit_status.ensures.told c.run.ensures.printed
    (λ s is. output_is_no_usage _ c.args.words.now s is.1.0 usage is.1.1) c.run.ensures.given_up in (
      up.0,
      subst (λ (line : List ℕ). Told (g.E.Sink.text c.args.faults.now) (g.E.Sink.text c.exit_status.new.faults) (g.E.Sink.failed c.args.faults.now) (g.E.Sink.failed c.exit_status.new.faults) line)
          (is_usage _ c.args.words.now up.1.0 g.W.Sink.text g.W.Sink.failed c.args.out.now c.run.new.out usage up.1.1) up.1.2,
    )
