use Rattle.std.proofs.Common.{◌∷◌, take}
use Rattle.handover_steps.specs.Least.{IsLeast}
use Rattle.handover_steps.specs.Successors.{IsTakenNumber, files_of}
use Rattle.handover_steps.proofs.taken.least_taken.Given as goal

abbrev pub invariant-loop-file : goal.invariant-loop-file
invariant-loop-file l = IsLeast (IsTakenNumber (l.old ∷ files_of (take l.file-index l.earlier)) l.old l.new) l.least
