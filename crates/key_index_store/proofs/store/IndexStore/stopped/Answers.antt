use Rattle.key_index_store.specs.Boundary.{taken_by}
use Rattle.key_index_store.specs.Indices.{limit_of}
use Rattle.key_index_store.proofs.Bounds.{some_lower}
use Rattle.key_index_store.proofs.store.IndexStore.stopped.Goals as goal

pub returns-clause-bounded : goal.returns-clause-bounded
returns-clause-bounded g c =
    let s = c.self.inside in
    rw (← c.self.view_is) (some_lower (g.D.Disk.bytes s.journal.disk) (g.D.Disk.images s.journal.disk) (limit_of s.keys) s.next (taken_by s.count) c.self.invariant.within c.self.invariant.bounded)
