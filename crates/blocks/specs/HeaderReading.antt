-- Reading a header from left to right, with the first refusal that is met.
use Rattle.std.specs.Prelude.{◌==◌, ◌&&◌, ◌||◌, ℕ, List, Bool, length, codes, nat_lt, Result, Ok}
use Rattle.std.specs.Str.{bytes_eq}
use Rattle.base_wire.specs.Pieces.{piece, number_at}
use Rattle.base_wire.specs.Refusals.{need}
use Rattle.blocks.specs.Headers.{Header}
use Rattle.blocks.specs.declared.header.HeaderRefusal.{HeaderRefusal}
use Rattle.blocks.specs.declared.header.HeaderRefusal.TheVariants.{Length, Magic, ViewOrder}

-- whether the parent's view is below the block's, or both are 0
abbrev pub are_in_order : ℕ → ℕ → Bool
are_in_order parent_view view = nat_lt parent_view view || (view == 0 && parent_view == 0)

-- the fields of a header at their places
abbrev pub header_at : List ℕ → Header
header_at bytes = record {
  view = number_at 8 bytes 4;
  parent_view = number_at 8 bytes 12;
  parent = piece 32 bytes 20;
  payload = piece 32 bytes 52;
}

-- the header that the bytes spell, or why they spell none
unfoldable pub header_in : List ℕ → Result Header HeaderRefusal
header_in bytes =
    need (length bytes == 84) Length (
    need (bytes_eq (codes "HSB1") (piece 4 bytes 0)) Magic (
    need (are_in_order (number_at 8 bytes 12) (number_at 8 bytes 4)) ViewOrder (
    Ok (header_at bytes))))

-- the number that docs/REFUSALS.md gives a refusal
abbrev pub header_refusal_number : HeaderRefusal → ℕ
header_refusal_number Length = 1
header_refusal_number Magic = 2
header_refusal_number ViewOrder = 3
