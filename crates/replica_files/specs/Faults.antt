-- What faults of files are, of a key set.
use Rattle.std.specs.declared.io.ErrorKind.{ErrorKind}
use Rattle.std.specs.declared.io.ErrorKind.TheVariants.{OutOfMemory}
use Rattle.replica_files.specs.declared.fault.KeyFault.{KeyFault}
use Rattle.replica_files.specs.declared.fault.KeyFault.TheVariants as key
use Rattle.replica_files.specs.declared.next.SetFault.{SetFault}
use Rattle.replica_files.specs.declared.next.SetFault.TheVariants.{Memory, Folder}

-- memory is memory, and all else is the folder's
abbrev pub of_files : KeyFault → SetFault
of_files key.Memory = Memory
of_files (key.File file) = Folder
of_files key.Output = Folder

abbrev pub of_kind : ErrorKind → SetFault
of_kind OutOfMemory = Memory
of_kind _ = Folder
