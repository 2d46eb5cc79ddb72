-- Which faults say that a write to the sink failed.
use Rattle.std.specs.Prelude.{◌≡◌, ◌≢◌, ℕ, Result, Ok, Err}
use Rattle.base_streams.specs.Counting.{one_more}
use Rattle.replica_command.specs.declared.fault.ReplicaFault.{ReplicaFault as ReplicaFaultValue}
use Rattle.replica_command.specs.declared.fault.ReplicaFault.TheVariants.{Output}

-- `Output` alone, once; no write failed where the work was done
abbrev pub BlamesOutput : {T : Type 0} → Result T ReplicaFaultValue → ℕ → ℕ → Type 0
BlamesOutput (Ok x) failures failures' = failures' ≡ failures
BlamesOutput (Err fault) failures failures' =
    (fault ≡ Output → failures' ≡ one_more failures) × (fault ≢ Output → failures' ≡ failures)
