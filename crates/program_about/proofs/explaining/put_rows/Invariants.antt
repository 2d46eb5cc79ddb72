use Rattle.program_about.specs.Explaining.{AreSaid}
use Rattle.program_about.proofs.explaining.put_rows.Given as goal

abbrev pub invariant-loop-row : goal.invariant-loop-row
invariant-loop-row l = AreSaid l.fn.text.items l.text.items l.is_known
