use Rattle.replica_core.proofs.Places.{same_places}
use Rattle.replica_core.proofs.table.HeaderTable.reserve.Goals as goal

pub invariant_of-self-2 : goal.invariant_of-self-2
invariant_of-self-2 c = rw c.reserve.ensures.items (same_places _ _ _ c.self.invariant c.reserve-2.ensures.entries.2)
