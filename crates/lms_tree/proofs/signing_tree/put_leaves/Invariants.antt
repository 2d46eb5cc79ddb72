use Rattle.std.proofs.Common.{◌+◌}
use Rattle.lms_tree.specs.Tree.{HasLeaves}
use Rattle.lms_tree.proofs.signing_tree.put_leaves.Given as goal

abbrev pub invariant-loop-k : goal.invariant-loop-k
invariant-loop-k l = HasLeaves l.secret.key_id l.secret.seed (l.q + l.k) l.nodes
