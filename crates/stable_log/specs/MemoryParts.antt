-- What a disk in memory keeps besides its bytes.
use Rattle.std.specs.Prelude.{ℕ, List, Bool, Option}
use Rattle.stable_log.specs.Memory.{disk_state}
use Rattle.stable_log.specs.declared.memory_disk.MemoryDisk.{MemoryDisk}

-- how many calls still succeed, and whether all behind them fail or one
abbrev pub fuse_of : MemoryDisk → Option (ℕ × Bool)
fuse_of disk = disk.fuse

-- how many calls it answered, failed ones too, up to the count's last value
abbrev pub calls_of : MemoryDisk → ℕ
calls_of disk = disk.answered

-- the bytes of the last sync
abbrev pub synced_of : MemoryDisk → List ℕ
synced_of disk = (disk_state disk.first.items disk.calls.items).synced
