use Rattle.std.proofs.Common.{◌≡◌, ◌++◌, List, drop}
use Rattle.replica_files.specs.KeyFiles.{FolderFile, Made}
use Rattle.replica_files.specs.KeySets.{files_of_keys}
use Rattle.replica_files.proofs.making.make_keys.Given as goal

-- the files so far, and behind them those of the other keys
abbrev pub invariant-loop-i : goal.invariant-loop-i
invariant-loop-i g l =
    (done : List FolderFile)
    × Made (g.D.MakeFolder.files l.initial.folder) (g.D.MakeFolder.files l.folder) done
    × (done ++ files_of_keys l.i (drop l.i l.secrets) ≡ files_of_keys 0 l.secrets)
    × (g.D.MakeFolder.failed l.folder ≡ g.D.MakeFolder.failed l.initial.folder)
