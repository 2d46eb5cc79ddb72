-- How many first bytes are awaited of a connection.
use Rattle.std.specs.Prelude.{ℕ, List, nat_eq, if◌then◌else◌}
use Rattle.std.specs.List.{starts_with}
use Rattle.base_sockets.specs.declared.first_bytes.FirstBytes.{FirstBytes}

-- of one of which these have come: more, or fewer, where they begin with the magic
abbrev pub awaited : FirstBytes → List ℕ → ℕ
awaited first come = if starts_with nat_eq come first.magic then first.of_magic else first.usual
