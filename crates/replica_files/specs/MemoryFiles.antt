-- What a folder in memory shows: its files, how many of its calls failed, and the fuse that is set.
use Rattle.std.specs.Prelude.{ℕ, Bool, List, Option}
use Rattle.replica_files.specs.KeyFiles.{FolderFile}

pub record MemoryFiles : Type 0 where
  pub files : List FolderFile
  pub failures : ℕ
  pub fuse : Option (ℕ × Bool)
