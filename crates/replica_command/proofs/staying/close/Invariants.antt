use Rattle.std.proofs.Common.{◌≡◌, ◌++◌}
use Rattle.std.specs.Prelude.{map}
use Rattle.replica_command.proofs.staying.close.Given as goal

abbrev pub invariant-loop-one : goal.invariant-loop-one
invariant-loop-one g l =
    (l.yielded ++ l.one-iterator.rest.items ≡ l.fn.done.items)
    × (map (λ s. s.receipts.items) l.sessions.items ≡ map (λ d. d.session.receipts.items) l.yielded)
