-- Failures on demand: how many calls still succeed before one fails, and whether all later ones fail too.
use Rattle.std.specs.Prelude.{ℕ, zero, suc, Bool, true, false, Option, Some, None}

-- whether the next call is to fail
abbrev pub is_burning : Option (ℕ × Bool) → Bool
is_burning None = false
is_burning (Some (zero, forever)) = true
is_burning (Some (suc pass, forever)) = false

-- the fuse behind that call
abbrev pub after_call : Option (ℕ × Bool) → Option (ℕ × Bool)
after_call None = None
after_call (Some (zero, true)) = Some (0, true)
after_call (Some (zero, false)) = None
after_call (Some (suc pass, forever)) = Some (pass, forever)
