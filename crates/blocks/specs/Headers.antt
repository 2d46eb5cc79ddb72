-- The header of a block, its bytes, and its id, as docs/FORMATS.md, "Header, 84 bytes", lays them out.
-- Blocks are those of chained HotStuff (Yin and others, PODC 2019); profile: views, not heights, and a
-- block's parent is always the block that it justifies.
use Rattle.std.specs.Prelude.{◌≡◌, ◌<◌, ◌≤◌, ◌-◌, ◌^◌, ◌++◌, ℕ, List, length, codes}
use Rattle.std.specs.Cmp.Lexicographic.{slice_cmp}
use Rattle.std.specs.Ordering.{nat_cmp}
use Rattle.std.specs.declared.cmp.Ordering.TheVariants.{Less}
use Rattle.byteorder.specs.Endian.{big_bytes}
use Rattle.sha2.specs.Sha256.{sha256}

-- a block's view, the view and the id of its parent, and 32 bytes of payload
pub record Header : Type 0 where
  pub view : ℕ
  pub parent_view : ℕ
  pub parent : List ℕ
  pub payload : List ℕ

-- the parent's view is below the block's, or both are 0 (`-` stops at 0)
abbrev pub AreInOrder : ℕ → ℕ → Type 0
AreInOrder parent_view view = parent_view ≤ view - 1

-- a header that has bytes: its views fit eight bytes each and are in order, its parts have 32 bytes each
pub record IsHeader (h : Header) : Type 0 where
  pub view : h.view < 2 ^ 64
  pub parent_view : h.parent_view < 2 ^ 64
  pub in_order : AreInOrder h.parent_view h.view
  pub parent : length h.parent ≡ 32
  pub payload : length h.payload ≡ 32

-- the 84 bytes of a header
unfoldable pub header_text : Header → List ℕ
header_text h = codes "HSB1" ++ (big_bytes 8 h.view ++ (big_bytes 8 h.parent_view ++ (h.parent ++ h.payload)))

-- the id of a header is the digest of its bytes
unfoldable pub header_id : Header → List ℕ
header_id h = sha256 (header_text h)

-- the id of a is below that of b: the first byte that differs decides
abbrev pub HasLowerId : Header → Header → Type 0
HasLowerId a b = slice_cmp nat_cmp (header_id a) (header_id b) ≡ Less

-- p is the parent that b names, by id and view
pub record NamesParent (b p : Header) : Type 0 where
  pub id : b.parent ≡ header_id p
  pub view : b.parent_view ≡ p.view

-- where chains end: both views are 0
pub record IsGenesis (g : Header) : Type 0 where
  pub view : g.view ≡ 0
  pub parent_view : g.parent_view ≡ 0
