-- The numbers of refusals, as docs/REFUSALS.md lists them.
use Rattle.std.specs.Prelude.{ℕ}
use Rattle.log_transfer.specs.declared.error.FetchError.{FetchError}
use Rattle.log_transfer.specs.declared.error.FetchError.TheVariants.{Memory}

abbrev pub fetch_error_number : FetchError → ℕ
fetch_error_number Memory = 1
