use Rattle.std.proofs.Common.{◌≡◌, drop}
use Rattle.std.specs.List.{All}
use Rattle.replica_command.specs.Dealing.{IsRequestIn}
use Rattle.replica_command.proofs.dealing.deal.Given as goal

abbrev pub invariant-loop-session : goal.invariant-loop-session
invariant-loop-session g l = (l.requests ≡ l.fn.requests) × All (λ work. All (IsRequestIn l.fn.requests.items) work.requests.items) l.all.items

abbrev pub invariant-loop-number : goal.invariant-loop-number
invariant-loop-number g l =
    (drop l.number-iterator.count l.fn.requests.items ≡ l.number-iterator.iter.rest.items)
    × All (λ work. All (IsRequestIn l.fn.requests.items) work.requests.items) l.all.items
