use Rattle.std.proofs.Common.{◌≡◌, map, take}
use Rattle.replica_files.specs.KeySets.{public_key}
use Rattle.replica_files.proofs.growing.keys_of.Given as goal

abbrev pub invariant-loop-tree : goal.invariant-loop-tree
invariant-loop-tree l = l.keys.items ≡ map public_key (take l.tree-index l.trees)
