-- Which faults say that a write to the sink failed.
use Rattle.std.specs.Prelude.{◌≡◌, ◌≢◌, ℕ, Result, Ok, Err}
use Rattle.base_streams.specs.Counting.{one_more}
use Rattle.program_parts.specs.declared.program_fault.ProgramFault.{ProgramFault}
use Rattle.program_parts.specs.declared.program_fault.ProgramFault.TheVariants.{Output}

-- `Output` alone, once
abbrev pub CountsOutput : {T : Type 0} → ProgramFault T → ℕ → ℕ → Type 0
CountsOutput fault failures failures' =
    (fault ≡ Output → failures' ≡ one_more failures) × (fault ≢ Output → failures' ≡ failures)

-- no write failed where the work was done
abbrev pub CountsWrites : {A T : Type 0} → Result A (ProgramFault T) → ℕ → ℕ → Type 0
CountsWrites (Ok x) failures failures' = failures' ≡ failures
CountsWrites (Err fault) failures failures' = CountsOutput fault failures failures'
