use Rattle.std.proofs.Common.{◌≡◌, length}
use Rattle.lms_tree.specs.Tree.{IsFilled}
use Rattle.lms_tree.proofs.signing_tree.fill_inner.Given as goal

abbrev pub invariant-loop-r : goal.invariant-loop-r
invariant-loop-r l = (length l.nodes ≡ 2048) × IsFilled l.secret.key_id l.secret.seed l.r l.nodes
