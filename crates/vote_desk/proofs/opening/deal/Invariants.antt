use Rattle.std.proofs.Common.{◌≡◌, ◌+◌, vec_len, []}
use Rattle.std.specs.List.{All}
use Rattle.vote_desk.proofs.opening.deal.Given as goal

abbrev pub invariant-loop-i : goal.invariant-loop-i
invariant-loop-i g l = (l.rest.parts + l._i ≡ l.sessions) × (l.rest.amount ≡ 0) × (vec_len l.all ≡ l._i)
    × All (λ s. s.receipts.items ≡ []) l.all.items
