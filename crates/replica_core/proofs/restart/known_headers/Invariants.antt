use Rattle.std.proofs.Common.{◌≤◌, ◌+◌, ◌*◌, length, take}
use Rattle.replica_core.specs.Restarts.{known_headers}
use Rattle.replica_core.proofs.Known.{AreFirsts}
use Rattle.replica_core.proofs.restart.known_headers.Given as goal

abbrev pub invariant-loop-entry : goal.invariant-loop-entry
invariant-loop-entry l = record {
  firsts : AreFirsts (known_headers l.fn.genesis (take l.entry-index l.entries)) l.known.headers;
  most : length l.known.headers ≤ 2 * l.entry-index + 1;
}
