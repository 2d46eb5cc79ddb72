use Rattle.std.proofs.Common.{◌≡◌, List, ℕ, Some}
use Rattle.replica_command.specs.Outrunning.{NoneOutruns}
use Rattle.replica_command.proofs.outrunning.log_outruns.Given as goal

abbrev pub invariant-loop-k : goal.invariant-loop-k
invariant-loop-k g l = record {
  entries : l.log.entries ≡ l.fn.log.entries;
  steps : l.log.steps ≡ l.fn.log.steps;
  stopped : l.log.stopped ≡ l.fn.log.stopped;
  genesis : l.log.genesis ≡ l.fn.log.genesis;
  told : g.D.Disk.bytes l.log.disk ≡ g.D.Disk.bytes l.fn.log.disk;
  none : (bs : List ℕ) → g.D.Disk.bytes l.fn.log.disk ≡ Some bs → NoneOutruns l.committee l.replica l.boundary l.fn.log.entries l.k;
}
