-- The lines that commands print.
use Rattle.std.specs.Prelude.{◌≡◌, ◌⊎◌, ℕ, List, ◌++◌, IfSome, Option, codes, decimal, length}
use Rattle.std.specs.List.{AllZip}
use Rattle.hex.specs.Hex.{encode_lower}
use Rattle.base_streams.specs.Streams.{Wrote}
use Rattle.blocks.specs.Committees.{IsCommittee, Member, committee_text, multikey_text, weighted_text}
use Rattle.blocks.specs.Genesis.{chain_id_of, genesis_of}
use Rattle.blocks.specs.Headers.{Header}
use Rattle.blocks.specs.Replay.{IsLegal}
use Rattle.replica_files.specs.KeyFiles.{key_line}
use Rattle.stable_log.specs.Image.{StandsFor}
use Rattle.stable_log.specs.State.{JournalState}
use Rattle.stable_log.specs.declared.disk.Disk.{Ghosts}
use Rattle.vote_log.specs.Logs.{LogState}
use Rattle.vote_log.specs.Migrations.{AreCarriedOver, IsRunningLog}
use Rattle.program_words.specs.declared.command.WeightedReplica.{WeightedReplica}

-- ---- keys

-- the key line of a key id and a seed, which are such bytes
pub record IsKeyPrinted (IsSeed : List ℕ → Type 0) (before after : Option (List ℕ)) : Type 0 where
  pub key_id : List ℕ
  pub seed : List ℕ
  pub id_size : length key_id ≡ 16
  pub is_seed : IsSeed (key_id ++ seed)
  pub wrote : Wrote before after (key_line key_id seed)

-- ---- committees

-- "chain ID"
abbrev pub chain_line : List ℕ → List ℕ
chain_line id = codes "chain " ++ (encode_lower id ++ codes "\n")

-- of a committee whose file is of this kind
pub record IsChainPrinted (IsText : List ℕ → Type 0) (before after : Option (List ℕ)) : Type 0 where
  pub bytes : List ℕ
  pub text : IsText bytes
  pub is_committee : IsCommittee bytes
  pub wrote : Wrote before after (chain_line (chain_id_of bytes))

-- of f faulty replicas and so many keys
abbrev pub IsTextOfKeys : ℕ → ℕ → List ℕ → Type 0
IsTextOfKeys f count bytes = (keys : List (List ℕ)) × (length keys ≡ count) × (bytes ≡ committee_text f keys)

-- a member of the weight of a replica, with as many keys
pub record IsMemberOf (r : WeightedReplica) (m : Member) : Type 0 where
  pub weight : m.weight ≡ r.weight
  pub many : length m.keys ≡ length r.paths.items

-- of these replicas, in their order
abbrev pub IsTextOfReplicas : List WeightedReplica → List ℕ → Type 0
IsTextOfReplicas replicas bytes =
    (members : List Member) × AllZip IsMemberOf replicas members × ((bytes ≡ weighted_text members) ⊎ (bytes ≡ multikey_text members))

-- ---- logs

-- the entries of a journal stand in a log over this genesis, which runs, has as many and is legal; where both disks tell
-- their bytes they are just what the journal's payloads spell
pub record IsCarriedOver {D : Type 0} (disk : Ghosts D) (genesis : Header) (old : JournalState D) (empty : D) (log : LogState D) : Type 0 where
  pub runs : IsRunningLog genesis (length old.payloads) log
  pub legal : IsLegal genesis log.steps
  pub same : IfSome (disk.bytes old.disk) (λ _. IfSome (disk.bytes empty) (λ _. AreCarriedOver old.payloads log.entries))

-- "exported COUNT"
abbrev pub exported_line : ℕ → List ℕ
exported_line count = codes "exported " ++ (decimal count ++ codes "\n")

-- of as many payloads as the bytes of a journal stand for
pub record IsExportPrinted (before after : Option (List ℕ)) : Type 0 where
  pub bytes : List ℕ
  pub payloads : List (List ℕ)
  pub stands : StandsFor bytes payloads
  pub wrote : Wrote before after (exported_line (length payloads))

-- "migrated COUNT"
abbrev pub migrated_line : ℕ → List ℕ
migrated_line count = codes "migrated " ++ (decimal count ++ codes "\n")

-- of as many entries as a journal has that was carried over to a log of a committee's chain
pub record IsMigrationPrinted {D : Type 0} (disk : Ghosts D) (before after : Option (List ℕ)) : Type 0 where
  pub committee : List ℕ
  pub is_committee : IsCommittee committee
  pub old : JournalState D
  pub empty : D
  pub log : LogState D
  pub carried : IsCarriedOver disk (genesis_of committee) old empty log
  pub wrote : Wrote before after (migrated_line (length old.payloads))
