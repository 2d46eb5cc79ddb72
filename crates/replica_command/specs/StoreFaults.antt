-- What a refusal of a store is of a start.
use Rattle.key_index_store.specs.Refusals.{index_error_number}
use Rattle.key_index_store.specs.declared.error.IndexError.{IndexError}
use Rattle.key_index_store.specs.declared.error.IndexError.TheVariants as index
use Rattle.vote_log.specs.LogRefusals.{log_error_number}
use Rattle.vote_log.specs.declared.log_error.LogError.{LogError}
use Rattle.vote_log.specs.declared.log_error.LogError.TheVariants as log
use Rattle.replica_command.specs.declared.fault.ReplicaFault.{ReplicaFault as ReplicaFaultValue}
use Rattle.replica_command.specs.declared.fault.ReplicaFault.TheVariants.{Device, Memory, Store}

-- of the index store
abbrev pub fault_of_indices : IndexError → ReplicaFaultValue
fault_of_indices index.Memory = Memory
fault_of_indices index.Device = Device
fault_of_indices refusal = Store (index_error_number refusal)

-- of the log
abbrev pub fault_of_log : LogError → ReplicaFaultValue
fault_of_log log.Memory = Memory
fault_of_log log.Device = Device
fault_of_log refusal = Store (log_error_number refusal)
