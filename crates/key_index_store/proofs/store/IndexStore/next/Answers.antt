use Rattle.std.proofs.Common.{◌+◌, arith}
use Rattle.key_index_store.specs.Boundary.{taken_by}
use Rattle.key_index_store.specs.Indices.{limit_of}
use Rattle.key_index_store.proofs.Bounds.{some_lower}
use Rattle.key_index_store.proofs.store.IndexStore.next.Goals as goal
use Rattle.key_index_store.proofs.store.IndexStore.next.Goals.{then-self+in_ok-reserve, else-self}

pub returns-clause-bounded : goal.returns-clause-bounded
returns-clause-bounded g c =
    let o = g.D.Disk.bytes c.self.inside.journal.disk in
    let mark = c.self.inside.next in
    let count = c.self.inside.count in
    elim c.if-self.branch [
      | then-self+in_ok-reserve w ↦ rw (w.self-inside-is, ← c.self.view_is) (some_lower o (g.D.Disk.images w.reserve.new.journal.disk) (limit_of c.self.inside.keys) (mark + 1) (taken_by (count + 1)) (omega arith) w.in_ok-reserve.ensures.durable)
      | else-self w ↦ rw (w.self-inside-is, ← c.self.view_is) (some_lower o (g.D.Disk.images c.self.inside.journal.disk) (limit_of c.self.inside.keys) (mark + 1) (taken_by count) (omega arith) c.self.invariant.bounded)
    ]

pub returns-in_err-reserve-clause-bounded : goal.returns-in_err-reserve-clause-bounded
returns-in_err-reserve-clause-bounded g c =
    let o = g.D.Disk.bytes c.self.inside.journal.disk in
    rw (← c.self.view_is) (some_lower o (g.D.Disk.images c.reserve.new.journal.disk) (limit_of c.self.inside.keys) c.self.inside.next (taken_by c.self.inside.count) c.self.invariant.within c.reserve.ensures.bounded)
