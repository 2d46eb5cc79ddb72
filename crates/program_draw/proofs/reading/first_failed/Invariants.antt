use Rattle.std.proofs.Common.{◌≢◌, take}
use Rattle.std.specs.List.{All}
use Rattle.log_format.specs.declared.status.Status.TheVariants.{Failed}
use Rattle.program_draw.proofs.reading.first_failed.Given as goal

abbrev pub invariant-loop-i : goal.invariant-loop-i
invariant-loop-i l = All (λ r. r.status ≢ Failed) (take l.i l.reports)
