-- What the frames of a log digest to. docs/FORMATS.md, "Report for programs".
use Rattle.std.specs.Prelude.{◌++◌, ◌∷◌, ℕ, List, [], replicate, codes}
use Rattle.sha2.specs.Sha256.{sha256}
use Rattle.hex.specs.Hex.{encode_lower}

-- of no frames: 32 zero bytes
unfoldable pub no_frames : List ℕ
no_frames = replicate 32 0

-- .. of one frame more, of this digest
unfoldable pub digest_then : List ℕ → List ℕ → List ℕ
digest_then before frame = sha256 (before ++ frame)

-- .. of frames of these digests, behind frames that digest to this
abbrev pub digest_from : List ℕ → List (List ℕ) → List ℕ
digest_from before [] = before
digest_from before (d ∷ ds) = digest_from (digest_then before d) ds

-- .. of all of them
unfoldable pub log_digest : List (List ℕ) → List ℕ
log_digest ds = digest_from no_frames ds

-- the file that says whose logs are kept: the chain's id, and a line feed
unfoldable pub chain_text : List ℕ → List ℕ
chain_text id = encode_lower id ++ codes "\n"
