use Rattle.std.proofs.Common.{◌≡◌, length}
use Rattle.stable_log.specs.Crash.{Unwritten}
use Rattle.log_server.specs.Answers.{IsServed}
use Rattle.log_server.proofs.service.answer_all.Given as goal

abbrev pub invariant-loop : goal.invariant-loop
invariant-loop g l = record {
  served : IsServed l.fn.log.stopped (length l.fn.log.steps) l.counter (g.W.Sink.text l.fn.out) (g.W.Sink.text l.out);
  entries : l.log.entries ≡ l.fn.log.entries;
  steps : l.log.steps ≡ l.fn.log.steps;
  stopped : l.log.stopped ≡ l.fn.log.stopped;
  genesis : l.log.genesis ≡ l.fn.log.genesis;
  unwritten : Unwritten g.D.Disk.bytes g.D.Disk.images g.D.Disk.moment g.D.Disk.images_since l.fn.log.disk l.log.disk;
  failed : g.W.Sink.failed l.out ≡ g.W.Sink.failed l.fn.out;
}
