use Rattle.std.proofs.Common.{◌≡◌, ◌+◌, ◌*◌, ◌≤◌, ℕ, List, All, Some, length}
use Rattle.stable_log.specs.declared.reading.PayloadPlace.{PayloadPlace}
use Rattle.stable_log.specs.Crash.{Unwritten}
use Rattle.stable_log.specs.Places.{IsRead}
use Rattle.stable_log.proofs.reading.read_payloads.Given as goal

abbrev pub invariant-loop : goal.invariant-loop
invariant-loop g l = record {
  unwritten : Unwritten g.D.Disk.bytes g.D.Disk.images g.D.Disk.moment g.D.Disk.images_since l.fn.disk l.disk;
  failed : g.D.Disk.failed l.disk ≡ g.D.Disk.failed l.fn.disk;
  size : l.size ≡ l.fn.size;
  read : (bs : List ℕ) → g.D.Disk.bytes l.fn.disk ≡ Some bs → IsRead bs l.places.items l.gate_at;
  count : length l.places.items ≡ l.counter;
  near : l.gate_at ≤ 8 + 65541 * length l.places.items;
  inside : All (λ (p : PayloadPlace). p.at + p.len ≤ l.gate_at) l.places.items;
  small : All (λ (p : PayloadPlace). p.len ≤ 65536) l.places.items;
}
