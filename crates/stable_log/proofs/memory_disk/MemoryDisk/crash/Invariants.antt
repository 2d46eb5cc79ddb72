use Rattle.std.proofs.Common.{◌≡◌, take}
use Rattle.stable_log.specs.Memory.{disk_state, IsImageOf}
use Rattle.stable_log.specs.declared.memory_disk.Choice.TheVariants.{Old, New}
use Rattle.stable_log.proofs.memory_disk.MemoryDisk.crash.Given as goal

abbrev pub invariant-loop-call : goal.invariant-loop-call
invariant-loop-call l = record {
  seen : l.seen.items ≡ (disk_state l.self.first.items (take l.call-index l.self.calls.items)).bytes;
  left : IsImageOf (disk_state l.self.first.items (take l.call-index l.self.calls.items)) l.left.items;
  new : l.choice ≡ New → l.left.items ≡ l.seen.items;
  old : l.choice ≡ Old → l.left.items ≡ (disk_state l.self.first.items (take l.call-index l.self.calls.items)).synced;
}
