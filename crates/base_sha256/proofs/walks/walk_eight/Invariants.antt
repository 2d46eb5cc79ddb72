use Rattle.std.proofs.Common.{◌≡◌, ℕ, ◌<◌, ◌+◌, [], slice_index, slice_index_or}
use Rattle.sha2.specs.Sha256.{digest_bytes}
use Rattle.base_sha256.specs.Chains.{chain_steps}
use Rattle.base_sha256.specs.Lanes.{lane}
use Rattle.base_sha256.proofs.walks.walk_eight.Given as goal

abbrev pub invariant-steps : goal.invariant-steps
invariant-steps s = (l : ℕ) → l < 8 → digest_bytes (lane l s.v) 8
    ≡ chain_steps (slice_index_or s.prefixes l []) (slice_index s.from l) (slice_index s.from l + s.t) (slice_index_or s.starts l [])
