use Rattle.std.proofs.Common.{◌≡◌, ◌++◌}
use Rattle.audit_evidence.proofs.headers.HeaderSet.copies.Given as goal

-- those that were taken, and those that are left, are all
abbrev pub invariant-loop-header : goal.invariant-loop-header
invariant-loop-header l = l.copies.items ++ l.header-iterator ≡ l.self
