-- The names of parts. docs/FORMATS.md, "Folder of a watch".
use Rattle.std.specs.Prelude.{◌≡◌, ◌<◌, ◌^◌, ◌++◌, ℕ, List, codes, decimal, length}
use Rattle.hex.specs.Hex.{IsBytes, encode_lower}
use Rattle.watch_state.specs.declared.name.PartName.{PartName}

-- R-I-K-N-D.hsl: the replica, which source of it, which log of that, how many frames stand in front, and what they digest to
unfoldable pub name_text : PartName → List ℕ
name_text p =
    decimal p.replica ++ codes "-" ++ decimal p.source ++ codes "-" ++ decimal p.log ++ codes "-" ++ decimal p.place
    ++ codes "-" ++ encode_lower p.front ++ codes ".hsl"

-- 32 bytes
abbrev pub IsDigest : List ℕ → Type 0
IsDigest front = (length front ≡ 32) × IsBytes front

-- what a name can hold: four numbers of 16 bits, and a digest
pub record IsPartName (p : PartName) : Type 0 where
  pub replica : p.replica < 2 ^ 16
  pub source : p.source < 2 ^ 16
  pub log : p.log < 2 ^ 16
  pub place : p.place < 2 ^ 16
  pub front : IsDigest p.front
