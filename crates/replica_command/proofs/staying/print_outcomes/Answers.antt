use Rattle.std.proofs.Common.{◌∙◌}
use Rattle.replica_command.proofs.Printing.{printed_one_more}
use Rattle.replica_command.proofs.staying.print_outcomes.Goals as goal

pub loop-number-preserved : goal.loop-number-preserved
loop-number-preserved g c =
    let turn = c.in_ok-print_turn.ensures.printed in (
      c.in_ok-print_turn.ensures.blame ∙ c.loop-number.invariant.0,
      printed_one_more _ _ _ _ c.loop-number.number c.loop-number.ending c.in_ok-print_turn.field-0 c.and-ending.result turn.0
          c.loop-number.invariant.1 turn.1 turn.2 c.and-ending.ensures turn.3,
    )
