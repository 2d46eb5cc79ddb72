use Rattle.std.proofs.Common.{take}
use Rattle.std.specs.List.{All}
use Rattle.audit_commits.specs.Pairs.{Agree}
use Rattle.audit_commits.proofs.conflicts.conflict_with.Given as goal

abbrev pub invariant-loop-b : goal.invariant-loop-b
invariant-loop-b l = All (Agree l.chains l.a) (take l.b-index l.blocks)
