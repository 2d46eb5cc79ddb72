-- The files of a replica's keys, and what is printed of them.
use Rattle.std.specs.Prelude.{◌≡◌, ◌<◌, ◌⊎◌, ℕ, List, [], ◌∷◌, ◌++◌, Option, Some, IfSome, codes, take}
use Rattle.std.specs.List.{Any}
use Rattle.stable_log.specs.Image.{empty_journal}
use Rattle.hex.specs.Hex.{encode_lower}
use Rattle.lms_tree.specs.Tree.{key_text, tree_root}
use Rattle.replica_files.specs.declared.files.KeyFile.{KeyFile as KeyFileValue}
use Rattle.replica_files.specs.declared.files.KeyFile.TheVariants.{Seed, PublicKey, Indices, Log}
use Rattle.base_wire.specs.declared.key_number.KeyNumber.{KeyNumber as KeyNumberValue}
use Rattle.base_wire.specs.declared.key_number.KeyNumber.TheVariants.{Zero, One, Two, Three}
use Rattle.base_streams.specs.Counting.{one_more}
use Rattle.replica_files.specs.declared.fault.KeyFault.{KeyFault as KeyFaultValue}
use Rattle.replica_files.specs.declared.fault.KeyFault.TheVariants.{Memory, File, Output}
use Rattle.replica_files.specs.declared.folder.Readers.{Readers}
use Rattle.replica_files.specs.declared.folder.Readers.TheVariants.{Owner, All}

-- a file of a folder
pub record FolderFile : Type 0 where
  pub name : List ℕ
  pub bytes : List ℕ
  pub readers : Readers

abbrev pub file_name : KeyFileValue → List ℕ
file_name (Seed Zero) = codes "key.seed"
file_name (Seed One) = codes "key-1.seed"
file_name (Seed Two) = codes "key-2.seed"
file_name (Seed Three) = codes "key-3.seed"
file_name (PublicKey Zero) = codes "key.pub"
file_name (PublicKey One) = codes "key-1.pub"
file_name (PublicKey Two) = codes "key-2.pub"
file_name (PublicKey Three) = codes "key-3.pub"
file_name Indices = codes "index.hsj"
file_name Log = codes "log.hsj"

-- the key that a file is made with
abbrev pub made_with : KeyFileValue → KeyNumberValue
made_with (Seed number) = number
made_with (PublicKey number) = number
made_with Indices = Zero
made_with Log = Zero

-- how many files of that key are made before this one
abbrev pub place_of : KeyFileValue → ℕ
place_of (Seed _) = 0
place_of (PublicKey _) = 1
place_of Indices = 2
place_of Log = 3

-- two journals with no entries, of the indices that were taken and of what the replica stored: all keys of a replica
-- share them, so they are made with the first one
abbrev pub journals_with : KeyNumberValue → List FolderFile
journals_with Zero =
    record { name = file_name Indices; bytes = empty_journal; readers = All }
    ∷ record { name = file_name Log; bytes = empty_journal; readers = All }
    ∷ []
journals_with One = []
journals_with Two = []
journals_with Three = []

-- what is made with a key, in this order: the secret key, the public key, and the journals
abbrev pub files_with : KeyNumberValue → List ℕ → List ℕ → List ℕ → List FolderFile
files_with number id seed public_key =
    record { name = file_name (Seed number); bytes = id ++ seed; readers = Owner }
    ∷ record { name = file_name (PublicKey number); bytes = public_key; readers = All }
    ∷ journals_with number

-- the files of a seed's key
abbrev pub key_files : KeyNumberValue → List ℕ → List ℕ → List FolderFile
key_files number id seed = files_with number id seed (key_text id (tree_root id seed))

-- "key HEX"
abbrev pub key_line : List ℕ → List ℕ → List ℕ
key_line id seed = codes "key " ++ (encode_lower (key_text id (tree_root id seed)) ++ 10 ∷ [])

-- a file of this name is there
abbrev pub IsThere : List ℕ → List FolderFile → Type 0
IsThere name held = Any (λ file. file.name ≡ name) held

-- none of the key's files that are made before this one is there
abbrev pub IsNoneBefore : KeyFileValue → List FolderFile → Type 0
IsNoneBefore file held =
    (other : KeyFileValue) → made_with other ≡ made_with file → place_of other < place_of file → IsThere (file_name other) held → ⊥

-- this is the first of the key's files, in the order in which they are made, that is there
pub record IsFirstThere (file : KeyFileValue) (held : List FolderFile) : Type 0 where
  pub there : IsThere (file_name file) held
  pub first : IsNoneBefore file held

-- this holds of the first of the key's files that is there, where the folder tells one
abbrev pub OfFirstThere : KeyNumberValue → Option (List FolderFile) → (KeyFileValue → Type 0) → Type 0
OfFirstThere number before Holds =
    IfSome before (λ held. (file : KeyFileValue) → made_with file ≡ number → IsFirstThere file held → Holds file)

-- these files were made, where the folder tells its files
abbrev pub Made : Option (List FolderFile) → Option (List FolderFile) → List FolderFile → Type 0
Made before after files = IfSome before (λ held. after ≡ Some (held ++ files))

-- the first of them were made, up to some place
abbrev pub MadePart : Option (List FolderFile) → Option (List FolderFile) → List FolderFile → Type 0
MadePart before after files = IfSome before (λ held. (n : ℕ) × (after ≡ Some (held ++ take n files)))

-- a look for the file found it there, or failed
abbrev pub IsFaultOfLook : KeyFileValue → KeyFaultValue → Option (List FolderFile) → ℕ → ℕ → Type 0
IsFaultOfLook file Memory before failures failures' = failures' ≡ one_more failures
IsFaultOfLook file (File named) before failures failures' = (named ≡ file)
    × ((IfSome before (IsThere (file_name file)) × (failures' ≡ failures)) ⊎ (failures' ≡ one_more failures))
IsFaultOfLook file Output before failures failures' = ⊥

-- a look for the key's files, in their order, found this one there, the first, or failed at it
abbrev pub IsFaultOfLooks : KeyNumberValue → KeyFaultValue → Option (List FolderFile) → ℕ → ℕ → Type 0
IsFaultOfLooks number Memory before failures failures' = failures' ≡ one_more failures
IsFaultOfLooks number (File file) before failures failures' = (made_with file ≡ number)
    × ((IfSome before (IsFirstThere file) × (failures' ≡ failures)) ⊎ (IfSome before (IsNoneBefore file) × (failures' ≡ one_more failures)))
IsFaultOfLooks number Output before failures failures' = ⊥

-- the file was not made, since a call of the folder failed
abbrev pub IsFaultOf : KeyFileValue → KeyFaultValue → Option (List FolderFile) → Option (List FolderFile) → ℕ → ℕ → Type 0
IsFaultOf file Memory before after failures failures' = (after ≡ before) × (failures' ≡ one_more failures)
IsFaultOf file (File named) before after failures failures' = (named ≡ file) × (after ≡ before) × (failures' ≡ one_more failures)
IsFaultOf file Output before after failures failures' = ⊥

-- what the folder has where a call of it failed: where a file could not be made, just those before it
abbrev pub LeavesSome : KeyNumberValue → KeyFaultValue → Option (List FolderFile) → Option (List FolderFile) → ℕ → ℕ → List FolderFile → Type 0
LeavesSome number Memory before after failures failures' files = MadePart before after files × (failures' ≡ one_more failures)
LeavesSome number (File file) before after failures failures' files = (made_with file ≡ number)
    × Made before after (take (place_of file) files) × (failures' ≡ one_more failures)
LeavesSome number Output before after failures failures' files = ⊥

-- what it has after a fault that came behind the looks: memory may be refused before the first file, and after `Output`
-- all files are there
abbrev pub LeavesMade : KeyNumberValue → KeyFaultValue → Option (List FolderFile) → Option (List FolderFile) → ℕ → ℕ → List FolderFile → Type 0
LeavesMade number Memory before after failures failures' files =
    ((after ≡ before) × (failures' ≡ failures)) ⊎ LeavesSome number Memory before after failures failures' files
LeavesMade number (File file) before after failures failures' files = LeavesSome number (File file) before after failures failures' files
LeavesMade number Output before after failures failures' files = Made before after files × (failures' ≡ failures)

-- what it has after any fault: just what it had, where the looks ended it
abbrev pub LeavesFiles : KeyNumberValue → KeyFaultValue → Option (List FolderFile) → Option (List FolderFile) → ℕ → ℕ → List FolderFile → Type 0
LeavesFiles number fault before after failures failures' files =
    ((after ≡ before) × IsFaultOfLooks number fault before failures failures') ⊎ LeavesMade number fault before after failures failures' files

-- whether a write failed, which is so of `Output` alone; with another fault nothing was written
abbrev pub LeavesLine : KeyFaultValue → Option (List ℕ) → Option (List ℕ) → ℕ → ℕ → Type 0
LeavesLine Memory before after failures failures' = (after ≡ before) × (failures' ≡ failures)
LeavesLine (File file) before after failures failures' = (after ≡ before) × (failures' ≡ failures)
LeavesLine Output before after failures failures' = failures' ≡ one_more failures
