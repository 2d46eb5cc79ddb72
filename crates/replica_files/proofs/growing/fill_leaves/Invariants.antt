use Rattle.std.proofs.Common.{◌≡◌, ◌<◌, ◌*◌, ℕ, [], length}
use Rattle.std.specs.Prelude.{slice_index_or}
use Rattle.lms_tree.specs.Tree.{AreFourLeaves}
use Rattle.lms_tree.specs.declared.TheConstants.{LEAF_FOURS}
use Rattle.replica_files.proofs.growing.fill_leaves.Given as goal

abbrev pub invariant-loop-p : goal.invariant-loop-p
invariant-loop-p g l =
    (length l.leaves ≡ LEAF_FOURS)
    × ((k : ℕ) → k < l.p → AreFourLeaves l.secret.key_id l.secret.seed (4 * k) (slice_index_or l.leaves k []))
