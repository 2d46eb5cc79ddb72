use Rattle.std.proofs.Common.{ℕ, ◌<◌}
use Rattle.program_show.specs.Entries.{IsOwnVoteBy}
use Rattle.program_show.proofs.entry.signer_of.Given as goal

abbrev pub invariant-loop-r : goal.invariant-loop-r
invariant-loop-r l = (q : ℕ) → q < l.r → IsOwnVoteBy l.committee l.entry q → ⊥
