use Rattle.std.proofs.Common.{◌≡◌, map, take}
use Rattle.replica_files.specs.KeySets.{public_key}
use Rattle.replica_files.proofs.making.public_keys.Given as goal

-- the keys of the seeds so far
abbrev pub invariant-loop-secret : goal.invariant-loop-secret
invariant-loop-secret g l = l.keys.items ≡ map public_key (take l.secret-index l.secrets)
