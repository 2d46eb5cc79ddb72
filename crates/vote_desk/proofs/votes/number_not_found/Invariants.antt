use Rattle.std.proofs.Common.{ℕ, ◌<◌, get_or}
use Rattle.vote_desk.specs.declared.reply.Receipt.{Receipt}
use Rattle.vote_desk.specs.Votes.{IsFoundIfIn}
use Rattle.vote_desk.proofs.votes.number_not_found.Given as goal

abbrev pub invariant-loop-k : goal.invariant-loop-k
invariant-loop-k l = (j : ℕ) (d : Receipt) → j < l.k → IsFoundIfIn l.view l.found (get_or l.receipts j d)
