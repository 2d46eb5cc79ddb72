use Rattle.std.proofs.Common.{inl, inr}
use Rattle.program_parts.proofs.Endings.{came_to, ends, gave_up}
use Rattle.program_follow.proofs.Endings.{output_status}
use Rattle.program_follow.proofs.lineage.run_lineage.Goals as goal

pub returns-clause-status : goal.returns-clause-status
returns-clause-status g c =
    elim (ends c.run.result c.exit_status.result _ _ _ c.exit_status.ensures.done c.exit_status.ensures.told c.run.ensures.printed) [
      | inl is ↦ output_status c.args.words.now c.exit_status.result is.1.0 is.1.1
      | inr two ↦ inr (inr two)
    ]

pub returns-clause-printed : goal.returns-clause-printed
returns-clause-printed g c not = (came_to c.run.result c.exit_status.result _ _ _ c.exit_status.ensures.done c.exit_status.ensures.told c.run.ensures.printed not).0.1

pub returns-clause-told : goal.returns-clause-told
returns-clause-told g c two =
    gave_up c.run.result c.exit_status.result _ _ _ _ c.exit_status.ensures.done c.exit_status.ensures.told c.run.ensures.printed (λ s is. is.0) c.run.ensures.given_up two
