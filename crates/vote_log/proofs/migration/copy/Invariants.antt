use Rattle.std.proofs.Common.{◌≡◌, ◌↔◌, List, ℕ, false, length, take, IfSome, IsSome, Some}
use Rattle.blocks.specs.Replay.{IsLegal, replay}
use Rattle.stable_log.specs.Crash.{Unwritten}
use Rattle.log_format.specs.EntryText.{Entry}
use Rattle.vote_log.specs.Logs.{LeavesEntries, steps_of}
use Rattle.vote_log.specs.OldEntries.{AreOldTexts}
use Rattle.vote_log.proofs.migration.copy.Given as goal

abbrev pub invariant-loop-k : goal.invariant-loop-k
invariant-loop-k g l = record {
  payloads : l.old.payloads ≡ l.fn.old.payloads;
  running : l.old.stopped ≡ false;
  unwritten : Unwritten g.D.Disk.bytes g.D.Disk.images g.D.Disk.moment g.D.Disk.images_since l.fn.old.disk l.old.disk;
  no_failure : g.D.Disk.failed l.old.disk ≡ g.D.Disk.failed l.fn.old.disk;
  log_running : l.log.stopped ≡ false;
  genesis : l.log.genesis ≡ l.fn.log.genesis;
  counted : length l.log.steps ≡ l.k;
  legal : IsLegal l.log.genesis l.log.steps;
  replayed : l.durable ≡ replay l.log.genesis l.log.steps;
  log_failure : g.D.Disk.failed l.log.disk ≡ g.D.Disk.failed l.fn.log.disk;
  tells : IsSome (g.D.Disk.bytes l.log.disk) ↔ IsSome (g.D.Disk.bytes l.fn.log.disk);
  durable : IfSome (g.D.Disk.bytes l.fn.log.disk) (λ _. LeavesEntries (g.D.Disk.images l.log.disk) l.log.entries);
  copied : (bs : List ℕ) → g.D.Disk.bytes l.fn.old.disk ≡ Some bs → (entries : List Entry) × AreOldTexts (take l.k l.fn.old.payloads) entries × (l.log.steps ≡ steps_of entries);
  listed : (bs : List ℕ) → g.D.Disk.bytes l.fn.old.disk ≡ Some bs → IfSome (g.D.Disk.bytes l.fn.log.disk) (λ _. AreOldTexts (take l.k l.fn.old.payloads) l.log.entries);
}
