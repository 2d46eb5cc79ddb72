use Rattle.std.proofs.Common.{◌≡◌, ◌*◌, length, take}
use Rattle.sha2.specs.Sha256.{digest_bytes}
use Rattle.base_sha256.specs.Lanes.{lane}
use Rattle.base_sha256.proofs.walks.store.Given as goal

abbrev pub invariant-words : goal.invariant-words
invariant-words s = (length s.value ≡ 32) × (take (4 * s.k) s.value ≡ digest_bytes (lane s.l s.v) s.k)
