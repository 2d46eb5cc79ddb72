-- The line of each fault.
use Rattle.std.specs.Prelude.{ℕ, List, ◌++◌, codes, decimal}
use Rattle.std.specs.Borrow.{Bor}
use Rattle.hex.specs.Hex.{encode_lower}
use Rattle.handover_folder.specs.declared.fault.LineageFault.{LineageFault}
use Rattle.handover_folder.specs.declared.fault.LineageFault.TheVariants as lineage
use Rattle.base_text.specs.Printed.{file_line, printed}
use Rattle.program_parts.specs.declared.program_fault.ProgramFault.{ProgramFault}
use Rattle.program_parts.specs.declared.program_fault.ProgramFault.TheVariants as program
use Rattle.replica_command.specs.Folders.{name_in_folder}
use Rattle.replica_command.specs.declared.fault.ReplicaFile.{ReplicaFile}
use Rattle.replica_command.specs.declared.fault.ReplicaFile.TheVariants as file
use Rattle.replica_command.specs.declared.fault.ReplicaFault.{ReplicaFault}
use Rattle.replica_command.specs.declared.fault.ReplicaFault.TheVariants as replica
use Rattle.signer_command.specs.declared.fault.SignerFault.{SignerFault}
use Rattle.signer_command.specs.declared.fault.SignerFault.TheVariants.{FileIn, Store, Receipts, DiskFailed, Socket, Listen, Threads, Lineage, Endless, Word}
use Rattle.program_parts.specs.FaultLines.{wrong_word_line}

-- a file behind its folder
abbrev pub name_behind : ReplicaFile → List ℕ
name_behind file = codes "/" ++ name_in_folder file

-- "fault disk PATH", with what stands behind the path and the line feed
abbrev pub disk_line : (path behind : List ℕ) → List ℕ
disk_line path behind = codes "fault disk " ++ (printed path ++ behind)

-- of the file that says that a disk failed its own line, of all others "fault file PATH"
abbrev pub file_in_folder_line : List ℕ → ReplicaFile → List ℕ
file_in_folder_line folder file.DiskFailed = disk_line folder (codes "/disk-failed\n")
file_in_folder_line folder it = file_line folder (name_behind it)

-- "fault store N"
abbrev pub store_fault_line : ℕ → List ℕ
store_fault_line number = codes "fault store " ++ decimal number ++ codes "\n"

-- "fault lineage CHAIN"
abbrev pub lineage_line : List ℕ → List ℕ
lineage_line chain = codes "fault lineage " ++ encode_lower chain ++ codes "\n"

-- of those that this program alone has
abbrev pub own_line : SignerFault → List ℕ
own_line (FileIn folder it) = file_in_folder_line folder.now it
own_line (Store number) = store_fault_line number
own_line Receipts = codes "fault receipts\n"
own_line (DiskFailed socket) = disk_line socket.now (codes ".disk-failed\n")
own_line (Socket folder) = file_line folder.now (codes "/signer.sock")
own_line Listen = codes "fault listen\n"
own_line Threads = codes "fault threads\n"
own_line (Lineage chain) = lineage_line chain
own_line Endless = codes "fault lineage\n"
own_line (Word word) = wrong_word_line word.now

-- of a folder of chains
abbrev pub fault_of_lineage : Bor (List ℕ) → LineageFault → ProgramFault SignerFault
fault_of_lineage path lineage.Memory = program.Memory
fault_of_lineage path lineage.Device = program.Own (FileIn path file.DiskFailed)
fault_of_lineage path (lineage.Chain chain) = program.Own (Lineage chain)
fault_of_lineage path lineage.Endless = program.Own Endless

-- of a replica on the folder at this path
abbrev pub fault_in_folder : Bor (List ℕ) → ReplicaFault → ProgramFault SignerFault
fault_in_folder path replica.Memory = program.Memory
fault_in_folder path (replica.File it) = program.Own (FileIn path it)
fault_in_folder path (replica.Store number) = program.Own (Store number)
fault_in_folder path replica.Device = program.Own (FileIn path file.DiskFailed)
fault_in_folder path replica.Receipts = program.Own Receipts
fault_in_folder path replica.Output = program.Output
