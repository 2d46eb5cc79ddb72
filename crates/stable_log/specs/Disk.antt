-- What a write does to the bytes of a disk. docs/FORMATS.md, 'Disk'.
use Rattle.std.specs.Prelude.{ℕ, ◌+◌, ◌++◌, List, length, take, drop}

-- old with these bytes at this offset
abbrev pub written : List ℕ → ℕ → List ℕ → List ℕ
written old at bytes = take at old ++ bytes ++ drop (at + length bytes) old
