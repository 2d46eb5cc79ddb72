use Rattle.std.proofs.Common.{take}
use Rattle.std.specs.List.{AllZip}
use Rattle.handover_proof.specs.Proofs.{IsLogOf}
use Rattle.handover_proof.proofs.proof.logs_of.Given as goal

abbrev pub invariant-loop-file : goal.invariant-loop-file
invariant-loop-file l = AllZip IsLogOf (take l.file-index l.files) l.logs.items
