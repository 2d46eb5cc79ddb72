use Rattle.std.proofs.Common.{◌≡◌, ◌++◌}
use Rattle.std.specs.Prelude.{Ok}
use Rattle.std.specs.List.{AllZip}
use Rattle.replica_command.proofs.staying.work_all.Given as goal

abbrev pub invariant-loop-one : goal.invariant-loop-one
invariant-loop-one g l =
    (l.yielded ++ l.one-iterator.rest.items ≡ l.initial.one-iterator.rest.items)
    × AllZip (λ r d. r ≡ Ok d) l.yielded l.all.items
