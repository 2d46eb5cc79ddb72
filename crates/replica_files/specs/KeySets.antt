-- The files of a key set: the keys that a replica signs with in one committee, from number 0 on, and their journals.
use Rattle.std.specs.Prelude.{◌≡◌, ◌⊎◌, ℕ, zero, suc, ◌+◌, List, [], ◌∷◌, ◌++◌, Option, Some, IfSome}
use Rattle.base_streams.specs.Counting.{one_more}
use Rattle.lmots.specs.declared.keys.PrivateSeed.{PrivateSeed}
use Rattle.lms_tree.specs.Tree.{key_text, tree_root}
use Rattle.stable_log.specs.Image.{empty_journal}
use Rattle.base_wire.specs.declared.key_number.KeyNumber.{KeyNumber}
use Rattle.base_wire.specs.declared.key_number.KeyNumber.TheVariants.{Zero, One, Two, Three}
use Rattle.replica_files.specs.declared.fault.KeyFault.{KeyFault}
use Rattle.replica_files.specs.declared.fault.KeyFault.TheVariants.{Memory, File, Output}
use Rattle.replica_files.specs.declared.files.KeyFile.{KeyFile}
use Rattle.replica_files.specs.declared.files.KeyFile.TheVariants.{Seed, PublicKey, Indices, Log}
use Rattle.replica_files.specs.declared.folder.Readers.{Readers}
use Rattle.replica_files.specs.declared.folder.Readers.TheVariants.{Owner, All}
use Rattle.replica_files.specs.KeyFiles.{FolderFile, file_name}
use Rattle.replica_files.specs.declared.making.Journals.{Journals}
use Rattle.replica_files.specs.declared.making.Journals.TheVariants as journals

-- the number of the key at a place
abbrev pub number_at : ℕ → KeyNumber
number_at zero = Zero
number_at (suc zero) = One
number_at (suc (suc zero)) = Two
number_at (suc (suc (suc more))) = Three

abbrev pub public_key : PrivateSeed → List ℕ
public_key secret = key_text secret.key_id (tree_root secret.key_id secret.seed)

abbrev pub one_file : KeyFile → List ℕ → Readers → List FolderFile
one_file file bytes readers = record { name = file_name file; bytes = bytes; readers = readers } ∷ []

-- a journal with no entry
abbrev pub journal : KeyFile → List FolderFile
journal file = one_file file empty_journal All

-- the secret key, then the public key
abbrev pub files_of_key : KeyNumber → PrivateSeed → List FolderFile
files_of_key number secret = one_file (Seed number) (secret.key_id ++ secret.seed) Owner ++ one_file (PublicKey number) (public_key secret) All

abbrev pub files_of_keys : ℕ → List PrivateSeed → List FolderFile
files_of_keys at [] = []
files_of_keys at (secret ∷ secrets) = files_of_key (number_at at) secret ++ files_of_keys (at + 1) secrets

-- of the indices that were taken, and, if it is asked for, of what the replica signs
abbrev pub journals_of : Journals → List FolderFile
journals_of journals.Indices = journal Indices
journals_of journals.IndicesAndLog = journal Indices ++ journal Log

abbrev pub files_of_set : List PrivateSeed → Journals → List FolderFile
files_of_set secrets which = files_of_keys 0 secrets ++ journals_of which

-- ---- faults

-- some first part of these files was made, and not the next one
pub record StopsIn (held : List FolderFile) (after : Option (List FolderFile)) (files : List FolderFile) : Type 0 where
  pub made : List FolderFile
  pub next : FolderFile
  pub rest : List FolderFile
  pub split : files ≡ made ++ next ∷ rest
  pub left : after ≡ Some (held ++ made)

-- .. where the folder tells its files
abbrev pub Stops : Option (List FolderFile) → Option (List FolderFile) → List FolderFile → Type 0
Stops before after files = IfSome before (λ held. StopsIn held after files)

-- .. and the next one is this file
abbrev pub StopsAt : KeyFile → Option (List FolderFile) → Option (List FolderFile) → List FolderFile → Type 0
StopsAt file before after files = IfSome before (λ held. (stop : StopsIn held after files) × (stop.next.name ≡ file_name file))

-- a call of the folder failed: of `File` that which makes the file, of `Memory` for want of it
abbrev pub IsStop : KeyFault → Option (List FolderFile) → Option (List FolderFile) → ℕ → ℕ → List FolderFile → Type 0
IsStop Memory before after failures failures' files = Stops before after files × (failures' ≡ one_more failures)
IsStop (File file) before after failures failures' files = StopsAt file before after files × (failures' ≡ one_more failures)
IsStop Output before after failures failures' files = ⊥

-- .. or memory was refused before the first
abbrev pub IsFaultOfSet : KeyFault → Option (List FolderFile) → Option (List FolderFile) → ℕ → ℕ → List FolderFile → Type 0
IsFaultOfSet Memory before after failures failures' files =
    ((after ≡ before) × (failures' ≡ failures)) ⊎ IsStop Memory before after failures failures' files
IsFaultOfSet fault before after failures failures' files = IsStop fault before after failures failures' files
