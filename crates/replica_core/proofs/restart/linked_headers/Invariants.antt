use Rattle.std.proofs.Common.{◌≤◌, length, take}
use Rattle.blocks.specs.Chains.{NoCollision}
use Rattle.replica_core.specs.Tables.{AllDiffer}
use Rattle.replica_core.proofs.Linked.{AreLinked}
use Rattle.replica_core.proofs.restart.linked_headers.Given as goal

abbrev pub invariant-loop-header : goal.invariant-loop-header
invariant-loop-header l = record {
  linked : AreLinked l.headers (take l.header-index l.headers) l.held.headers l.genesis;
  most : length l.held.headers ≤ l.header-index;
  apart : NoCollision l.held.headers;
  once : AllDiffer l.held.headers;
}
