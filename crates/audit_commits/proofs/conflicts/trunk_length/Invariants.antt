use Rattle.std.proofs.Common.{◌≤◌}
use Rattle.audit_commits.proofs.OneChain.{IsTrunkBelow}
use Rattle.audit_commits.proofs.conflicts.trunk_length.Given as goal

abbrev pub invariant-loop-k : goal.invariant-loop-k
invariant-loop-k l = record {
  within : l.trunk ≤ l.k;
  trunk : IsTrunkBelow l.chains l.blocks l.trunk l.k;
}
