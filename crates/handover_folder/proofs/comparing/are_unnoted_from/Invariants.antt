use Rattle.std.proofs.Common.{◌≡◌, ◌<◌, ◌≤◌, ℕ, false}
use Rattle.handover_folder.specs.Comparing.{nth_chain}
use Rattle.handover_folder.proofs.comparing.are_unnoted_from.Given as goal

-- none so far is
abbrev pub invariant-loop-k : goal.invariant-loop-k
invariant-loop-k l = (k : ℕ) → l.place ≤ k → k < l.k → (nth_chain l.left k).is_noted ≡ false
