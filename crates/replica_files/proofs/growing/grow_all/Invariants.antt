use Rattle.std.proofs.Common.{◌≡◌, take}
use Rattle.replica_files.proofs.growing.grow_all.Given as goal

abbrev pub invariant-loop-secret : goal.invariant-loop-secret
invariant-loop-secret g l = l.trees.items ≡ take l.secret-index l.secrets
