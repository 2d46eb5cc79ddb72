-- Which faults say that a write to the sink failed.
use Rattle.std.specs.Prelude.{◌≡◌, ℕ, Result, Ok, Err}
use Rattle.base_streams.specs.Counting.{one_more}
use Rattle.log_server.specs.declared.fault.ServiceFault.{ServiceFault}
use Rattle.log_server.specs.declared.fault.ServiceFault.TheVariants.{Listen, Output}

-- `Output` alone, once; no write failed where the work was done
abbrev pub BlamesOutput : {T : Type 0} → Result T ServiceFault → ℕ → ℕ → Type 0
BlamesOutput (Ok x) failures failures' = failures' ≡ failures
BlamesOutput (Err Listen) failures failures' = failures' ≡ failures
BlamesOutput (Err Output) failures failures' = failures' ≡ one_more failures
