use Rattle.std.proofs.Common.{◌≡◌, ℕ, ◌<◌}
use Rattle.handover_keys.specs.BoundIds.{bound_id}
use Rattle.handover_keys.specs.NextKeys.{chain_in, key_id_in, replica_in}
use Rattle.handover_keys.proofs.checking.has_bound_ids.Given as goal

abbrev pub invariant-loop-k : goal.invariant-loop-k
invariant-loop-k l = (j : ℕ) → j < l.k → key_id_in l.statement j ≡ bound_id (chain_in l.statement) (replica_in l.statement) j
