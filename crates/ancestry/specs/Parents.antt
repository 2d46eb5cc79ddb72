-- The parent in a chain.
use Rattle.std.specs.Prelude.{◌<◌}
use Rattle.blocks.specs.Headers.{Header, NamesParent}

-- p is the parent that b names, and older
abbrev pub IsParent : Header → Header → Type 0
IsParent b p = NamesParent b p × (p.view < b.view)
