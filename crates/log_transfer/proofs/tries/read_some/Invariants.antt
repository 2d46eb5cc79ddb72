use Rattle.std.proofs.Common.{◌≡◌, length}
use Rattle.std.specs.Io.KnownBytes.{Keeps}
use Rattle.log_transfer.proofs.tries.read_some.Given as goal

abbrev pub invariant-loop : goal.invariant-loop
invariant-loop g l = record {
  length : length l.buffer ≡ length l.fn.buffer;
  kept : Keeps (g.R.Read.remaining l.fn.stream) (g.R.Read.remaining l.stream);
}
