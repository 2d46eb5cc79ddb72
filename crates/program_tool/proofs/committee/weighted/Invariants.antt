use Rattle.std.proofs.Common.{take}
use Rattle.std.specs.List.{AllZip}
use Rattle.program_tool.specs.Lines.{IsMemberOf}
use Rattle.program_tool.proofs.committee.weighted.Given as goal

abbrev pub invariant-loop-replica : goal.invariant-loop-replica
invariant-loop-replica g l = AllZip IsMemberOf (take l.replica-index l.replicas) l.members.items
