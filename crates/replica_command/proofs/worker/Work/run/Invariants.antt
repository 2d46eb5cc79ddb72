use Rattle.std.proofs.Common.{◌≡◌, ◌++◌}
use Rattle.replica_command.specs.Dealing.{AreWorked}
use Rattle.replica_command.proofs.worker.Work.run.Given as goal

abbrev pub invariant-loop-number : goal.invariant-loop-number
invariant-loop-number g l =
    (l.yielded ++ l.number-iterator.rest.items ≡ l.fn.self.requests.items)
    × AreWorked g.D.Disk g.N.DeskNaming.committee g.N.DeskNaming.replica g.N.DeskNaming.opening l.yielded l.session.receipts.items l.outcomes.items
