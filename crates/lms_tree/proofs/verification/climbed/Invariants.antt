use Rattle.std.proofs.Common.{◌≡◌}
use Rattle.lms_tree.specs.Tree.{ancestor, climbed, path_in}
use Rattle.lms_tree.proofs.verification.climbed.Given as goal

abbrev pub invariant-loop-level : goal.invariant-loop-level
invariant-loop-level l = (l.node ≡ ancestor l.fn.leaf l.level)
    × (l.hash ≡ climbed l.key_id (path_in l.signature) l.fn.leaf l.fn.leaf_hash l.level)
