use Rattle.std.proofs.Common.{◌≡◌, ◌+◌, ◌++◌, vec_len}
use Rattle.std.specs.Prelude.{map}
use Rattle.vote_desk.specs.Receipts.{receipts_of}
use Rattle.vote_desk.proofs.closing.gather.Given as goal

abbrev pub invariant-loop-session : goal.invariant-loop-session
invariant-loop-session g l = (l.all.parts + vec_len l.left ≡ vec_len l.fn.sessions) × (l.all.amount ≡ vec_len l.receipts)
    × (l.receipts.items ++ receipts_of (map (λ s. s.receipts.items) l.left.items) ≡ receipts_of (map (λ s. s.receipts.items) l.fn.sessions.items))

abbrev pub decreases-loop-session : goal.decreases-loop-session
decreases-loop-session g l = vec_len l.left
