-- What frames digest to, and one more.
use Rattle.std.specs.Prelude.{◌≡◌, ◌++◌, ◌∷◌, ℕ, List, [], refl}
use Rattle.watch_state.specs.Digests.{digest_from, digest_then, log_digest, no_frames}

digest_one_more : (before : List ℕ) (ds : List (List ℕ)) (d : List ℕ) → digest_from before (ds ++ d ∷ []) ≡ digest_then (digest_from before ds) d
digest_one_more before [] d = refl
digest_one_more before (x ∷ ds) d = digest_one_more (digest_then before x) ds d

-- the digest of a log with one frame more
pub log_one_more : (ds : List (List ℕ)) (d : List ℕ) → log_digest (ds ++ d ∷ []) ≡ digest_then (log_digest ds) d
unfolding log_digest
log_one_more ds d = digest_one_more no_frames ds d
