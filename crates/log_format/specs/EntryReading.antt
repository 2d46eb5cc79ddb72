-- Why bytes are no entry: the tests of a reader, in their order.
use Rattle.std.specs.Prelude.{◌≡◌, ◌⊎◌, ◌<◌, ◌==◌, ℕ, List, [], ◌∷◌, Bool, true, Option, Some, None, length, slice_index, drop, IsOk, ⊤, if◌then◌else◌}
use Rattle.base_wire.specs.Pieces.{piece, number_at}
use Rattle.base_wire.specs.Refusals.{AllPassed, IsFirst}
use Rattle.blocks.specs.Headers.{Header as BlockHeader, NamesParent, header_id}
use Rattle.blocks.specs.HeaderReading.{header_at, header_in}
use Rattle.certificates.specs.Certificates.{Certificate as ParentCertificate}
use Rattle.certificates.specs.CertificateReading.{certificate_at, certificate_in, is_whole_certificate}
use Rattle.log_format.specs.declared.entry.TheConstants.{BEHIND_VOTE, VOTE_AT}
use Rattle.log_format.specs.declared.entry.KeyedSignature.{KeyedSignature}
use Rattle.log_format.specs.declared.entry.EntryRefusal.{EntryRefusal}
use Rattle.log_format.specs.declared.entry.EntryRefusal.TheVariants.{Memory, Length, Kind, Header, Parent, OwnVote, Certificate}
use Rattle.lms_tree.specs.declared.TheConstants.{SIGNATURE_LEN}
use Rattle.log_format.specs.EntryText.{Entry, IsOn}

-- ---- the parts of an entry at their places

-- 3 with the replica's own vote, 4 without
abbrev pub entry_kind_in : List ℕ → ℕ
entry_kind_in bytes = slice_index bytes 0

abbrev pub is_voted_in : List ℕ → Bool
is_voted_in bytes = entry_kind_in bytes == 3

-- the block's header, and its parent's
unfoldable pub block_in : List ℕ → BlockHeader
block_in bytes = header_at (piece 84 bytes 1)

unfoldable pub parent_in : List ℕ → BlockHeader
parent_in bytes = header_at (piece 84 bytes 85)

-- the number of the key of the own vote, and its signature, if there is one
unfoldable pub own_in : Bool → List ℕ → Option KeyedSignature
own_in voted bytes = if voted then Some (record { key = slice_index bytes 169; signature = piece SIGNATURE_LEN bytes 210 }) else None

-- the certificate is the rest, behind the own vote or in its place
abbrev pub certificate_place : Bool → ℕ
certificate_place voted = if voted then BEHIND_VOTE else VOTE_AT

abbrev pub rest_in : Bool → List ℕ → List ℕ
rest_in voted bytes = drop (certificate_place voted) bytes

unfoldable pub certificate_in_rest : List ℕ → ParentCertificate
certificate_in_rest rest = certificate_at rest

abbrev pub entry_in : List ℕ → Entry
entry_in bytes = record {
  block = block_in bytes;
  parent = parent_in bytes;
  own = own_in (is_voted_in bytes) bytes;
  certificate = certificate_in_rest (rest_in (is_voted_in bytes) bytes);
}

-- ---- the tests

-- the own vote is on this block, by view and id
pub record IsOwnVoteOn (b : BlockHeader) (bytes : List ℕ) : Type 0 where
  pub view : number_at 8 bytes 170 ≡ b.view
  pub id : piece 32 bytes 178 ≡ header_id b

abbrev pub AreReadable : List ℕ → List ℕ → Type 0
AreReadable block parent = IsOk (header_in block) × IsOk (header_in parent)

abbrev pub IsReadableOn : BlockHeader → List ℕ → Type 0
IsReadableOn parent rest = IsOk (certificate_in rest) × IsOn parent (certificate_in_rest rest)

-- what each refusal tests; where there is no first byte, the kind is not at fault
abbrev pub PassesEntry : List ℕ → EntryRefusal → Type 0
PassesEntry bytes Memory = ⊤
PassesEntry bytes Length = is_whole_certificate (rest_in (is_voted_in bytes) bytes) ≡ true
PassesEntry bytes Kind = 0 < length bytes → (entry_kind_in bytes ≡ 3) ⊎ (entry_kind_in bytes ≡ 4)
PassesEntry bytes Header = AreReadable (piece 84 bytes 1) (piece 84 bytes 85)
PassesEntry bytes Parent = NamesParent (block_in bytes) (parent_in bytes)
PassesEntry bytes OwnVote = is_voted_in bytes ≡ true → IsOwnVoteOn (block_in bytes) bytes
PassesEntry bytes Certificate = IsReadableOn (parent_in bytes) (rest_in (is_voted_in bytes) bytes)

-- the kind is looked at first, since the length depends on it
abbrev pub entry_order : List EntryRefusal
entry_order = Kind ∷ Length ∷ Header ∷ Parent ∷ OwnVote ∷ Certificate ∷ []

-- the number that docs/REFUSALS.md gives a refusal
abbrev pub entry_refusal_number : EntryRefusal → ℕ
entry_refusal_number Memory = 1
entry_refusal_number Length = 2
entry_refusal_number Kind = 3
entry_refusal_number Header = 4
entry_refusal_number Parent = 5
entry_refusal_number OwnVote = 6
entry_refusal_number Certificate = 7

-- the bytes pass each test
abbrev pub IsReadableEntry : List ℕ → Type 0
IsReadableEntry bytes = AllPassed (PassesEntry bytes) entry_order

-- they don't pass this one, and it is the first such
abbrev pub IsFirstFailed : List ℕ → EntryRefusal → Type 0
IsFirstFailed bytes refusal = IsFirst entry_refusal_number (PassesEntry bytes) entry_order refusal

-- memory is asked for once, behind all tests but the certificate's
abbrev pub IsEntryRefusal : List ℕ → EntryRefusal → Type 0
IsEntryRefusal bytes Memory = AllPassed (PassesEntry bytes) (Kind ∷ Length ∷ Header ∷ Parent ∷ OwnVote ∷ [])
IsEntryRefusal bytes refusal = IsFirstFailed bytes refusal

-- ---- the tests of the certificate alone

-- memory was refused, or the certificate is not readable or not on the parent
abbrev pub IsCertificateRefusal : BlockHeader → List ℕ → EntryRefusal → Type 0
IsCertificateRefusal parent rest Memory = Unit {0}
IsCertificateRefusal parent rest Certificate = IsReadableOn parent rest → ⊥
IsCertificateRefusal parent rest _ = ⊥
