-- The files of a replica's folder.
use Rattle.std.specs.Prelude.{ℕ, List, codes}
use Rattle.replica_files.specs.KeyFiles.{file_name}
use Rattle.replica_command.specs.declared.fault.ReplicaFile.{ReplicaFile as ReplicaFileValue}
use Rattle.replica_command.specs.declared.fault.ReplicaFile.TheVariants.{Lock, Key, PutBack, DiskFailed}

abbrev pub name_in_folder : ReplicaFileValue → List ℕ
name_in_folder Lock = codes "lock"
name_in_folder (Key file) = file_name file
name_in_folder PutBack = codes "put-back"
name_in_folder DiskFailed = codes "disk-failed"
