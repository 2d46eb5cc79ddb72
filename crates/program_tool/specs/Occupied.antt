-- What may not be written over, by its length and its first bytes.
use Rattle.std.specs.Prelude.{ℕ, ◌==◌, ◌&&◌, ◌||◌, List, [], ◌∷◌, Bool, length, codes}
use Rattle.std.specs.Str.{bytes_eq}
use Rattle.base_wire.specs.Pieces.{piece}
use Rattle.lmots.specs.declared.keys.TheConstants.{PRIVATE_SEED_LEN}

-- the bytes begin with these
abbrev pub has_front : List ℕ → List ℕ → Bool
has_front bytes front = bytes_eq front (piece (length front) bytes 0)

-- a seed, a public key of LMS, a journal, an export, or a verdict of an old or of today's form
abbrev pub is_precious : List ℕ → Bool
is_precious bytes =
    length bytes == PRIVATE_SEED_LEN
    || ((length bytes == 56 && has_front bytes (0 ∷ 0 ∷ 0 ∷ 6 ∷ 0 ∷ 0 ∷ 0 ∷ 4 ∷ []))
    || (has_front bytes (codes "HSJ1") || (has_front bytes (codes "HSL1") || (has_front bytes (codes "HSX1") || has_front bytes (codes "HSX2")))))
