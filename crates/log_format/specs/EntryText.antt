-- Entries of a replica's log and their bytes, as docs/FORMATS.md, "Log entry", lays them out. A replica
-- stores one for each block that it votes for, and for each that raises its lock without a vote.
use Rattle.std.specs.Prelude.{◌≡◌, ◌<◌, ◌^◌, ◌++◌, ℕ, List, [], ◌∷◌, length, Bool, true, false, Option, Some, None, IfSome, option_map}
use Rattle.byteorder.specs.Endian.{big_bytes}
use Rattle.blocks.specs.Headers.{Header, IsHeader, NamesParent, header_id, header_text}
use Rattle.blocks.specs.Replica.{Stored}
use Rattle.lms_tree.specs.declared.TheConstants.{SIGNATURE_LEN}
use Rattle.certificates.specs.Certificates.{Certificate, IsCertificate, certificate_text}
use Rattle.certificates.specs.declared.vote.SignedVote.{SignedVote}
use Rattle.log_format.specs.declared.entry.KeyedSignature.{KeyedSignature}

-- a block, its parent, the signature of the replica's own vote for the block with the number of its key, if it
-- voted, and the certificate of the parent
pub record Entry : Type 0 where
  pub block : Header
  pub parent : Header
  pub own : Option KeyedSignature
  pub certificate : Certificate

-- ---- which entries there are

-- the certificate is on this block, by id and view
pub record IsOn (b : Header) (c : Certificate) : Type 0 where
  pub id : c.id ≡ header_id b
  pub view : c.view ≡ b.view

-- a signature and the number of its key, which have bytes
pub record IsKeyedSignature (s : KeyedSignature) : Type 0 where
  pub key : s.key < 2 ^ 8
  pub signature : length s.signature ≡ SIGNATURE_LEN

-- an entry that has bytes: the block names the parent, and the certificate is on the parent
pub record IsEntry (e : Entry) : Type 0 where
  pub block : IsHeader e.block
  pub parent : IsHeader e.parent
  pub names : NamesParent e.block e.parent
  pub own : IfSome e.own IsKeyedSignature
  pub certificate : IsCertificate e.certificate
  pub on_parent : IsOn e.parent e.certificate

-- ---- the bytes of an entry

-- 3 with the replica's own vote, 4 without
abbrev pub entry_kind : Option KeyedSignature → ℕ
entry_kind (Some signed) = 3
entry_kind None = 4

-- the own vote, if there is one: the number of the key, the block's view and id, and the signature
abbrev pub own_vote_text : Header → Option KeyedSignature → List ℕ
own_vote_text block (Some signed) = (signed.key ∷ []) ++ (big_bytes 8 block.view ++ (header_id block ++ signed.signature))
own_vote_text block None = []

-- the kind, the block's header, its parent's, the own vote, and the certificate
unfoldable pub entry_text : Entry → List ℕ
entry_text e = (entry_kind e.own ∷ []) ++ (header_text e.block ++ (header_text e.parent ++ (own_vote_text e.block e.own ++ certificate_text e.certificate)))

-- the bytes are those of this entry
pub record IsEntryOf (bytes : List ℕ) (e : Entry) : Type 0 where
  pub entry : IsEntry e
  pub text : bytes ≡ entry_text e

-- two entries of the same bytes are one
abbrev pub EntriesHaveOneSpelling : Type 0
EntriesHaveOneSpelling = (e f : Entry) → IsEntry e → IsEntry f → entry_text e ≡ entry_text f → e ≡ f

-- ---- the vote in an entry

-- what an entry keeps of the own vote beside its block
abbrev pub own_of : Option SignedVote → Option KeyedSignature
own_of (Some vote) = Some (record { key = vote.key; signature = vote.signature })
own_of None = None

-- the replica's vote for the block, if it voted
abbrev pub own_vote_of : Entry → ℕ → Option SignedVote
own_vote_of e replica = option_map (λ (s : KeyedSignature). record { replica = replica; view = e.block.view; id = header_id e.block; key = s.key; signature = s.signature }) e.own

-- ---- what replay sees of an entry

abbrev pub is_signed : Option KeyedSignature → Bool
is_signed (Some signed) = true
is_signed None = false

-- whether the replica voted, the block, and its parent
abbrev pub stored_in : Entry → Stored
stored_in e = record { voted = is_signed e.own; block = e.block; parent = e.parent }
