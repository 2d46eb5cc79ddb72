-- What a run costs, as it is looked for.
use Rattle.std.specs.Prelude.{◌≡◌, ◌⊎◌, ◌-◌, ◌^◌, ℕ, List}
use Rattle.watch_state.specs.Joins.{IsRun, bytes_of, run_at}
use Rattle.watch_state.specs.declared.name.PartFile.{PartFile}

-- more than any has
abbrev pub no_run : ℕ
no_run = 2 ^ 64 - 1

-- its bytes, where it is one
abbrev pub IsCost : List PartFile → ℕ → ℕ → Type 0
IsCost parts i cost = (IsRun parts i × (cost ≡ bytes_of (run_at parts i))) ⊎ ((IsRun parts i → ⊥) × (cost ≡ no_run))
