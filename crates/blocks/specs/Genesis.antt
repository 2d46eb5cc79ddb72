-- Where the chains of a committee end, as docs/FORMATS.md, "Committee, 8 + 56n bytes", says.
use Rattle.std.specs.Prelude.{ℕ, List, replicate}
use Rattle.sha2.specs.Sha256.{sha256}
use Rattle.blocks.specs.Headers.{Header, header_id}

-- genesis has view 0 and no parent, and carries the digest of the committee's bytes
abbrev pub genesis_of : List ℕ → Header
genesis_of committee = record { view = 0; parent_view = 0; parent = replicate 32 0; payload = sha256 committee }

-- a chain is named by the id of its genesis
abbrev pub chain_id_of : List ℕ → List ℕ
chain_id_of committee = header_id (genesis_of committee)
