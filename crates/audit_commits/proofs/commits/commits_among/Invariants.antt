use Rattle.std.proofs.Common.{take}
use Rattle.audit_commits.specs.Chosen.{AreThose}
use Rattle.audit_commits.specs.Successors.{IsCommitAmong}
use Rattle.audit_commits.proofs.commits.commits_among.Given as goal

abbrev pub invariant-loop-header : goal.invariant-loop-header
invariant-loop-header l = AreThose (IsCommitAmong l.chains) (take l.header-index l.header-items) l.chosen.items
