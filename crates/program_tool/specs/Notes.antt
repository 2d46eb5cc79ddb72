-- What an audit tells beside its report, where no reasons are asked for.
use Rattle.std.specs.Prelude.{◌≡◌, ◌⊎◌, ℕ, List, Option}
use Rattle.log_request.specs.HeardLines.{TellsHeard}
use Rattle.program_tool.specs.HandedOver.{TellsHandover}

-- of a handover, or nothing, and behind that what was heard of the servers of so many sources, or nothing
pub record TellsNotes (sources : ℕ) (before after : Option (List ℕ)) : Type 0 where
  pub between : Option (List ℕ)
  pub handover : (between ≡ before) ⊎ TellsHandover before between
  pub heard : (after ≡ between) ⊎ TellsHeard sources between after
