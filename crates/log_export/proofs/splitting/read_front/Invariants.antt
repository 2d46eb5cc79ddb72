use Rattle.std.proofs.Common.{length}
use Rattle.log_export.specs.Splits.{IsRestBehind}
use Rattle.log_export.proofs.Gates.{parts}
use Rattle.log_export.proofs.splitting.read_front.Given as goal

abbrev pub invariant-loop-payloads : goal.invariant-loop-payloads
invariant-loop-payloads l = IsRestBehind l.bytes (parts l.payloads.items) l.rest

abbrev pub decreases-loop-payloads : goal.decreases-loop-payloads
decreases-loop-payloads l = length l.rest
