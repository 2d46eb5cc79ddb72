use Rattle.std.proofs.Common.{◌≡◌, List, ℕ, Some, length}
use Rattle.stable_log.specs.Crash.{Unwritten}
use Rattle.base_streams.specs.Streams.{Wrote}
use Rattle.vote_log.specs.LogExport.{frames_from}
use Rattle.vote_log.proofs.export.send_frames.Given as goal

abbrev pub invariant-loop-k : goal.invariant-loop-k
invariant-loop-k g l = record {
  room : length l.frame ≡ 65540;
  payloads : l.journal.payloads ≡ l.fn.journal.payloads;
  stopped : l.journal.stopped ≡ l.fn.journal.stopped;
  unwritten : Unwritten g.D.Disk.bytes g.D.Disk.images g.D.Disk.moment g.D.Disk.images_since l.fn.journal.disk l.journal.disk;
  disk : g.D.Disk.failed l.journal.disk ≡ g.D.Disk.failed l.fn.journal.disk;
  sink : g.W.Sink.failed l.sink ≡ g.W.Sink.failed l.fn.sink;
  sent : (bs : List ℕ) → g.D.Disk.bytes l.fn.journal.disk ≡ Some bs → Wrote (g.W.Sink.text l.fn.sink) (g.W.Sink.text l.sink) (frames_from l.fn.journal.payloads l.from l.k);
}
