use Rattle.std.proofs.Common.{◌≡◌, List, ℕ, false, Some}
use Rattle.stable_log.specs.Crash.{Unwritten}
use Rattle.vote_log.proofs.OldLogs.{IsJudged}
use Rattle.vote_log.proofs.migration.judge.Given as goal

abbrev pub invariant-loop-k : goal.invariant-loop-k
invariant-loop-k g l = record {
  payloads : l.old.payloads ≡ l.fn.old.payloads;
  running : l.old.stopped ≡ false;
  unwritten : Unwritten g.D.Disk.bytes g.D.Disk.images g.D.Disk.moment g.D.Disk.images_since l.fn.old.disk l.old.disk;
  no_failure : g.D.Disk.failed l.old.disk ≡ g.D.Disk.failed l.fn.old.disk;
  judged : (bs : List ℕ) → g.D.Disk.bytes l.fn.old.disk ≡ Some bs → IsJudged l.genesis l.fn.old.payloads l.k l.durable;
}
