use Rattle.std.proofs.Common.{◌≡◌, ℕ, List, ◌<◌, ◌*◌}
use Rattle.sha2.specs.Sha256.{IsRoundsAt, initial_hash_256, rounds, schedule}
use Rattle.base_sha256.specs.Lanes.{AreWordsOf, lane}
use Rattle.base_sha256.proofs.compression.compress.Given as goal

abbrev pub invariant-turns : goal.invariant-turns
invariant-turns v = (l : ℕ) → l < 8 → (b : List ℕ) → AreWordsOf (lane l v.words) b
    → lane l v.after_five ≡ rounds initial_hash_256 (schedule b 48) 5
    → IsRoundsAt b initial_hash_256 (lane l v.ring) (lane l v.v) (16 * v.turn)
