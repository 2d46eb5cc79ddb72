use Rattle.std.proofs.Common.{◌≤◌, length}
use Rattle.audit_commits.proofs.conflicts.ancestors_among.Given as goal

abbrev pub invariant-loop-count : goal.invariant-loop-count
invariant-loop-count l = l.count ≤ length l.blocks

abbrev pub decreases-loop-count : goal.decreases-loop-count
decreases-loop-count l = l.count
