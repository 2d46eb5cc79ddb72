-- What kind of file bytes look like: by their length alone for a seed, else by what they begin with.
use Rattle.std.specs.Prelude.{ℕ, ◌==◌, ◌&&◌, List, Bool, length, slice_index, nat_le, codes, if◌then◌else◌}
use Rattle.std.specs.Str.{bytes_eq}
use Rattle.base_wire.specs.Pieces.{piece, number_at}
use Rattle.lmots.specs.declared.keys.TheConstants.{PRIVATE_SEED_LEN}
use Rattle.program_show.specs.declared.kind.Kind.{Kind}
use Rattle.program_show.specs.declared.kind.Kind.TheVariants.{Seed, Committee, Verdict, Export, Endorsement, Renewal, Journal, Indices, Other}

-- the bytes begin with these four
abbrev pub has_magic : List ℕ → List ℕ → Bool
has_magic bytes magic = bytes_eq magic (piece 4 bytes 0)

-- the first gate of a journal is open, and behind it stands an entry of four bytes, as no log has
abbrev pub begins_with_index : List ℕ → Bool
begins_with_index bytes = nat_le 13 (length bytes) && (slice_index bytes 8 == 1 && number_at 4 bytes 9 == 4)

abbrev pub kind_in : List ℕ → Kind
kind_in bytes =
    if length bytes == PRIVATE_SEED_LEN then Seed
    else if has_magic bytes (codes "HSC1") then Committee
    else if has_magic bytes (codes "HSC2") then Committee
    else if has_magic bytes (codes "HSC3") then Committee
    else if has_magic bytes (codes "HSX2") then Verdict
    else if has_magic bytes (codes "HSL1") then Export
    else if has_magic bytes (codes "HSE1") then Endorsement
    else if has_magic bytes (codes "HSR1") then Renewal
    else if has_magic bytes (codes "HSJ1") then (if begins_with_index bytes then Indices else Journal)
    else Other
