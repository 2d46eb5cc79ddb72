-- What is printed of a replica's next keys, and why none are.
use Rattle.std.specs.Borrow.{Bor}
use Rattle.std.specs.Prelude.{◌≡◌, ◌⊎◌, ◌<◌, ◌≤◌, ◌++◌, ◌∷◌, [], ℕ, Err, List, None, Option, Some, codes, ⊤}
use Rattle.hex.specs.Hex.{encode_lower}
use Rattle.base_streams.specs.Streams.{Wrote}
use Rattle.blocks.specs.CommitteeReading.{committee_in}
use Rattle.blocks.specs.Committees.{IsCommittee, keys_of, n_of}
use Rattle.blocks.specs.Genesis.{chain_id_of}
use Rattle.replica_files.specs.Drawing.{AreNextKeys}
use Rattle.replica_files.specs.declared.behind.Behind.{Behind}
use Rattle.program_parts.specs.declared.program_fault.ProgramFault.{ProgramFault}
use Rattle.program_parts.specs.declared.program_fault.ProgramFault.TheVariants.{Usage, Memory, File, Committee, Output}
use Rattle.program_words.specs.declared.command.KeyCount.{KeyCount}
use Rattle.program_tool.specs.declared.fault.ToolFault.{ToolFault}

-- ---- lines

-- "key HEX"
abbrev pub key_line : List ℕ → List ℕ
key_line key = codes "key " ++ (encode_lower key ++ 10 ∷ [])

-- .. of each key, in their order
abbrev pub key_lines : List (List ℕ) → List ℕ
key_lines [] = []
key_lines (key ∷ keys) = key_line key ++ key_lines keys

-- ---- keys

-- as many keys as are asked for, or as the replica has in the committee
abbrev pub count_behind : List ℕ → ℕ → Option KeyCount → ℕ
count_behind committee replica None = keys_of committee replica
count_behind committee replica (Some keys) = keys.count

-- these are to be the next keys of this replica of the committee, so many
pub record IsBehind (committee : List ℕ) (replica : ℕ) (count : Option KeyCount) (behind : Behind) : Type 0 where
  pub has : replica < n_of committee
  pub chain : behind.chain ≡ chain_id_of committee
  pub of : behind.replica ≡ replica
  pub many : behind.count ≡ count_behind committee replica count

-- the lines of its next keys, of seeds that were drawn
pub record AreKeysPrinted (Draws : List ℕ → Type 0) (committee : List ℕ) (replica : ℕ) (count : Option KeyCount) (before after : Option (List ℕ)) : Type 0 where
  pub behind : Behind
  pub theirs : IsBehind committee replica count behind
  pub keys : List (List ℕ)
  pub are : AreNextKeys Draws behind keys
  pub wrote : Wrote before after (key_lines keys)

-- .. of some committee
abbrev pub AreNextKeysPrinted : (Draws : List ℕ → Type 0) → (replica : ℕ) → Option KeyCount → (before after : Option (List ℕ)) → Type 0
AreNextKeysPrinted Draws replica count before after =
    (committee : List ℕ) × IsCommittee committee × AreKeysPrinted Draws committee replica count before after

-- ---- faults

-- the committee has no such replica, memory was refused, the files can't be made in the folder, or the lines can't be written
abbrev pub IsFaultOfKeys : (folder : Bor (List ℕ)) → (committee : List ℕ) → (replica : ℕ) → ProgramFault ToolFault → Type 0
IsFaultOfKeys folder committee replica Usage = n_of committee ≤ replica
IsFaultOfKeys folder committee replica Memory = ⊤
IsFaultOfKeys folder committee replica Output = ⊤
IsFaultOfKeys folder committee replica (File path) = path ≡ folder
IsFaultOfKeys folder committee replica fault = ⊥

-- .. or what stands in the file is no committee, or it can't be read
abbrev pub IsFaultOfNextKeys : (folder file : Bor (List ℕ)) → (replica : ℕ) → ProgramFault ToolFault → Type 0
IsFaultOfNextKeys folder file replica (File path) = (path ≡ file) ⊎ (path ≡ folder)
IsFaultOfNextKeys folder file replica (Committee refusal) = (bytes : List ℕ) × (committee_in bytes ≡ Err refusal)
IsFaultOfNextKeys folder file replica fault = (committee : List ℕ) × IsFaultOfKeys folder committee replica fault
