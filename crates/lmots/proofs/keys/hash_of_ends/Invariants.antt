use Rattle.std.proofs.Common.{◌++◌}
use Rattle.sha2.specs.Hashers.{Holds256}
use Rattle.lmots.specs.Chains.{prefix, joined, end_in}
use Rattle.lmots.proofs.keys.hash_of_ends.Given as goal

abbrev pub invariant-loop-end : goal.invariant-loop-end
invariant-loop-end l = Holds256 l.hasher (prefix l.key_id l.q 0x8080 ++ joined (end_in l.ends) l.end-index)
