use Rattle.std.proofs.Common.{◌≡◌, List, ℕ, take, false, Some, length}
use Rattle.blocks.specs.Replay.{IsLegal, replay}
use Rattle.stable_log.specs.Crash.{Unwritten}
use Rattle.vote_log.specs.Logs.{AreTexts}
use Rattle.vote_log.proofs.reading.read_steps.Given as goal

abbrev pub invariant-loop-k : goal.invariant-loop-k
invariant-loop-k g l = record {
  payloads : l.journal.payloads ≡ l.fn.journal.payloads;
  running : l.journal.stopped ≡ false;
  unwritten : Unwritten g.D.Disk.bytes g.D.Disk.images g.D.Disk.moment g.D.Disk.images_since l.fn.journal.disk l.journal.disk;
  no_failure : g.D.Disk.failed l.journal.disk ≡ g.D.Disk.failed l.fn.journal.disk;
  counted : length l.steps.items ≡ l.k;
  legal : IsLegal l.genesis l.steps.items;
  replayed : l.durable ≡ replay l.genesis l.steps.items;
  read : (bs : List ℕ) → g.D.Disk.bytes l.fn.journal.disk ≡ Some bs → AreTexts (take l.k l.fn.journal.payloads) l.steps.items;
}
