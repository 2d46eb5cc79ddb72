-- Why a stay ends early.
use Rattle.std.specs.Prelude.{◌≡◌, ◌≢◌, ℕ, List, ⊤}
use Rattle.lmots.specs.declared.keys.PrivateSeed.{PrivateSeed}
use Rattle.key_index_store.specs.State.{IndexState}
use Rattle.vote_log.specs.Logs.{LogState}
use Rattle.vote_desk.specs.DeskRefusals.{IsStartRefusal, start_error_number}
use Rattle.vote_desk.specs.declared.start_error.StartError.{StartError}
use Rattle.vote_desk.specs.declared.start_error.StartError.TheVariants as start
use Rattle.replica_command.specs.declared.fault.ReplicaFault.{ReplicaFault as ReplicaFaultValue}
use Rattle.replica_command.specs.declared.fault.ReplicaFault.TheVariants.{Device, File, Store}

-- at an open desk: no file and no store is to blame, nor a disk at its opening
abbrev pub IsWorkFault : ReplicaFaultValue → Type 0
IsWorkFault (File file) = ⊥
IsWorkFault (Store number) = ⊥
IsWorkFault Device = ⊥
IsWorkFault fault = ⊤

-- .. or the desk is not opened on these parts, and the number is that of its first refusal
abbrev pub IsStayFault : {D : Type 0} → List ℕ → ℕ → List PrivateSeed → LogState D → IndexState D → ReplicaFaultValue → Type 0
IsStayFault committee replica seeds log store (Store number) =
    (refusal : StartError) × (refusal ≢ start.Memory) × (number ≡ start_error_number refusal) × IsStartRefusal committee replica seeds log store refusal
IsStayFault committee replica seeds log store fault = IsWorkFault fault
