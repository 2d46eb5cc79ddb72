use Rattle.std.proofs.Common.{◌≤◌, length}
use Rattle.program_parts.specs.Words.{HasNoColonFrom}
use Rattle.program_parts.proofs.words.last_colon.Given as goal

abbrev pub invariant-loop-end : goal.invariant-loop-end
invariant-loop-end l = (l.end ≤ length l.text) × HasNoColonFrom l.text l.end

abbrev pub decreases-loop-end : goal.decreases-loop-end
decreases-loop-end l = l.end
