-- Certificates and their bytes, as docs/FORMATS.md, "Certificate, 42 + 1,455c bytes", lays them out. They
-- are the quorum certificates of HotStuff (Yin and others, PODC 2019); profile: a list of signatures in
-- place of one threshold signature, each beside the numbers of its replica and of the key that signed.
use Rattle.std.specs.Prelude.{◌≡◌, ◌↔◌, ◌<◌, ◌≤◌, ◌^◌, ◌++◌, ℕ, List, [], ◌∷◌, length, slice_index_or}
use Rattle.std.specs.List.{All, AllPairs, flat_map}
use Rattle.lms_tree.specs.declared.TheConstants.{SIGNATURE_LEN}
use Rattle.byteorder.specs.Endian.{big_bytes}
use Rattle.certificates.specs.declared.certificate.Endorsement.{Endorsement}
use Rattle.certificates.specs.declared.vote.SignedVote.{SignedVote}

-- a view, a block's id, and replicas with their keys and signatures on both
pub record Certificate : Type 0 where
  pub view : ℕ
  pub id : List ℕ
  pub entries : List Endorsement

-- ---- which certificates there are

-- the replica of d stands before that of e
abbrev pub IsBefore : Endorsement → Endorsement → Type 0
IsBefore d e = d.replica < e.replica

-- an entry that has bytes
pub record IsEndorsement (e : Endorsement) : Type 0 where
  pub replica : e.replica < 2 ^ 16
  pub key : e.key < 2 ^ 8
  pub signature : length e.signature ≡ SIGNATURE_LEN

-- a certificate that has bytes: its replicas rise, there are at most 31, and none exactly in view 0
pub record IsCertificate (c : Certificate) : Type 0 where
  pub view : c.view < 2 ^ 64
  pub id : length c.id ≡ 32
  pub each : All IsEndorsement c.entries
  pub rising : AllPairs IsBefore c.entries
  pub most : length c.entries ≤ 31
  pub none : (length c.entries ≡ 0) ↔ (c.view ≡ 0)

-- ---- the bytes of a certificate

-- a replica's number, that of its key, and the signature
abbrev pub endorsement_text : Endorsement → List ℕ
endorsement_text e = big_bytes 2 e.replica ++ e.key ∷ e.signature

-- the view, the id, the number of entries, and the entries one after the other
unfoldable pub certificate_text : Certificate → List ℕ
certificate_text c = big_bytes 8 c.view ++ (c.id ++ (big_bytes 2 (length c.entries) ++ flat_map endorsement_text c.entries))

-- ---- the votes in a certificate

-- entry k, for k below their number
abbrev pub nth_endorsement : Certificate → ℕ → Endorsement
nth_endorsement c k = slice_index_or c.entries k (record { replica = 0; key = 0; signature = [] })

-- the vote that an entry stands for
abbrev pub vote_of : Certificate → Endorsement → SignedVote
vote_of c e = record { replica = e.replica; view = c.view; id = c.id; key = e.key; signature = e.signature }
