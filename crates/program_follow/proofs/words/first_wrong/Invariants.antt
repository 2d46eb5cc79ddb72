use Rattle.std.proofs.Common.{◌≡◌, length}
use Rattle.program_follow.specs.Words.{first_wrong}
use Rattle.program_follow.proofs.words.first_wrong.Given as goal

abbrev pub invariant-loop-left : goal.invariant-loop-left
invariant-loop-left l = first_wrong l.words ≡ first_wrong l.left

abbrev pub decreases-loop-left : goal.decreases-loop-left
decreases-loop-left l = length l.left
