use Rattle.std.proofs.Common.{◌≡◌, List, ℕ, length, take, false, Some}
use Rattle.stable_log.specs.Crash.{Unwritten}
use Rattle.handover_folder.specs.State.{said_in}
use Rattle.handover_folder.specs.Words.{IsSaid, words_of}
use Rattle.handover_folder.proofs.store.read_words.Given as goal

abbrev pub invariant-loop-k : goal.invariant-loop-k
invariant-loop-k g l = record {
  payloads : l.journal.payloads ≡ l.fn.journal.payloads;
  running : l.journal.stopped ≡ false;
  unwritten : Unwritten g.D.Disk.bytes g.D.Disk.images g.D.Disk.moment g.D.Disk.images_since l.fn.journal.disk l.journal.disk;
  no_failure : g.D.Disk.failed l.journal.disk ≡ g.D.Disk.failed l.fn.journal.disk;
  counted : l.k ≡ length (words_of (said_in l.words));
  whole : IsSaid (said_in l.words);
  read : (bs : List ℕ) → g.D.Disk.bytes l.fn.journal.disk ≡ Some bs → take l.k l.fn.journal.payloads ≡ words_of (said_in l.words);
}
