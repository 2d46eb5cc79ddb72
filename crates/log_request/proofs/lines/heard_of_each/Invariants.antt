use Rattle.std.proofs.Common.{◌≡◌, length}
use Rattle.log_request.proofs.lines.heard_of_each.Given as goal

abbrev pub invariant-loop-server : goal.invariant-loop-server
invariant-loop-server g l = length l.heard.items ≡ l.server-index
