use Rattle.std.proofs.Common.{◌*◌}
use Rattle.lms_tree.specs.Tree.{HasLeaves}
use Rattle.lms_tree.proofs.signing_tree.fill_leaves.Given as goal

abbrev pub invariant-loop-four : goal.invariant-loop-four
invariant-loop-four l = HasLeaves l.secret.key_id l.secret.seed (4 * l.four) l.nodes
