-- What is shown of a committee and of a verdict.
use Rattle.std.specs.Prelude.{◌≡◌, ◌<◌, ◌↔◌, ℕ, ℤ, List, pos, IsSome, IfSome, if◌then◌else◌}
use Rattle.base_wire.specs.Pieces.{number_at}
use Rattle.blocks.specs.Committees.{IsCommittee, has_weights, key_id_at, keys_of, n_of, root_at, weight_at}
use Rattle.blocks.specs.Genesis.{chain_id_of}
use Rattle.blocks.specs.Headers.{Header, header_id}
use Rattle.blocks.specs.Weights.{quorum_of, total_of}
use Rattle.verdict_format.specs.Verdicts.{chain_in, earlier_in, earlier_key_in, headers_in, later_in, later_key_in, replica_in, verdict_kind_in}
use Rattle.verdict_format.specs.VerdictReading.{IsFormRefusal, IsReadableVerdict, verdict_refusal_number}
use Rattle.verdict_format.specs.declared.verdict.TheConstants.{EARLIER_SIGNATURE_AT, LATER_SIGNATURE_AT}
use Rattle.verdict_format.specs.declared.verdict.VerdictRefusal.{VerdictRefusal}
use Rattle.program_answers.specs.declared.showing.HsCommittee.{HsCommittee}
use Rattle.program_answers.specs.declared.showing.HsHeader.{HsHeader}
use Rattle.program_answers.specs.declared.showing.HsHeaders.{HsHeaders}
use Rattle.program_answers.specs.declared.showing.HsKey.{HsKey}
use Rattle.program_answers.specs.declared.showing.HsVerdict.{HsVerdict}
use Rattle.program_answers.specs.declared.showing.HsVote.{HsVote}
use Rattle.program_answers.specs.Judging.{IsCommitteeRefusedAs}

-- ---- committees

-- its size, its weights and the name of its chain
pub record IsShownCommittee (committee : List ℕ) (shown : HsCommittee) : Type 0 where
  pub total : shown.total ≡ total_of committee
  pub quorum : shown.quorum ≡ quorum_of committee
  pub n : shown.n ≡ n_of committee
  pub weighted : shown.weighted ≡ (if has_weights committee then 1 else 0)
  pub chain : shown.chain ≡ chain_id_of committee

-- what is answered of a committee, and what becomes of what is shown
pub record IsCommitteeShown (committee : List ℕ) (old new : HsCommittee) (answer : ℤ) : Type 0 where
  pub exact : (answer ≡ pos 0) ↔ IsCommittee committee
  pub shown : answer ≡ pos 0 → IsShownCommittee committee new
  pub first_refusal : (IsCommittee committee → ⊥) → IsCommitteeRefusedAs committee answer
  pub untouched : (answer ≡ pos 0 → ⊥) → new ≡ old

-- ---- keys

-- the committee has this replica, and the replica this key
pub record HasKey (committee : List ℕ) (replica key : ℕ) : Type 0 where
  pub known : replica < n_of committee
  pub has : key < keys_of committee replica

-- the replica's weight, and the key
pub record IsShownKey (committee : List ℕ) (replica key : ℕ) (shown : HsKey) : Type 0 where
  pub weight : shown.weight ≡ weight_at committee replica
  pub keys : shown.keys ≡ keys_of committee replica
  pub key_id : shown.key_id ≡ key_id_at committee replica key
  pub root : shown.root ≡ root_at committee replica key

-- what is answered of a key: 1 where the committee has none such
pub record IsKeyShown (committee : List ℕ) (replica key : ℕ) (old new : HsKey) (answer : ℤ) : Type 0 where
  pub exact : (answer ≡ pos 0) ↔ (IsCommittee committee × HasKey committee replica key)
  pub absent : IsCommittee committee → (HasKey committee replica key → ⊥) → answer ≡ pos 1
  pub shown : answer ≡ pos 0 → IsShownKey committee replica key new
  pub first_refusal : (IsCommittee committee → ⊥) → IsCommitteeRefusedAs committee answer
  pub untouched : (answer ≡ pos 0 → ⊥) → new ≡ old

-- ---- verdicts

-- the verdict can't be read, by the first test that it does not pass, and the answer is the number of that
pub record IsVerdictRefusedAs (verdict : List ℕ) (answer : ℤ) : Type 0 where
  pub refusal : VerdictRefusal
  pub first : IsFormRefusal verdict refusal
  pub number : answer ≡ pos (verdict_refusal_number refusal)

-- the first vote, with the number that stands first in its signature: that of its one-time key
pub record IsShownEarlier (verdict : List ℕ) (shown : HsVote) : Type 0 where
  pub view : shown.view ≡ (earlier_in verdict).view
  pub id : shown.id ≡ (earlier_in verdict).id
  pub key : shown.key ≡ earlier_key_in verdict
  pub index : shown.index ≡ number_at 4 verdict EARLIER_SIGNATURE_AT

-- .. and the second
pub record IsShownLater (verdict : List ℕ) (shown : HsVote) : Type 0 where
  pub view : shown.view ≡ (later_in verdict).view
  pub id : shown.id ≡ (later_in verdict).id
  pub key : shown.key ≡ later_key_in verdict
  pub index : shown.index ≡ number_at 4 verdict LATER_SIGNATURE_AT

-- who is accused of what, and both votes
pub record IsShownVerdict (verdict : List ℕ) (shown : HsVerdict) : Type 0 where
  pub chain : shown.chain ≡ chain_in verdict
  pub replica : shown.replica ≡ replica_in verdict
  pub rule : shown.rule ≡ verdict_kind_in verdict
  pub earlier : IsShownEarlier verdict shown.earlier
  pub later : IsShownLater verdict shown.later

-- what is answered of a verdict, whether or not it proves anything
pub record IsVerdictShown (verdict : List ℕ) (old new : HsVerdict) (answer : ℤ) : Type 0 where
  pub exact : (answer ≡ pos 0) ↔ IsReadableVerdict verdict
  pub shown : answer ≡ pos 0 → IsShownVerdict verdict new
  pub first_refusal : (IsReadableVerdict verdict → ⊥) → IsVerdictRefusedAs verdict answer
  pub untouched : (answer ≡ pos 0 → ⊥) → new ≡ old

-- ---- headers

-- the verdict can be read, and so can its headers, which it has
pub record HasHeaders (verdict : List ℕ) : Type 0 where
  pub readable : IsReadableVerdict verdict
  pub headers : IsSome (headers_in verdict)

-- the header, and its id
pub record IsShownHeader (header : Header) (shown : HsHeader) : Type 0 where
  pub view : shown.view ≡ header.view
  pub parent_view : shown.parent_view ≡ header.parent_view
  pub id : shown.id ≡ header_id header
  pub parent : shown.parent ≡ header.parent

-- the three headers of the verdict
pub record AreShownHeaders (verdict : List ℕ) (shown : HsHeaders) : Type 0 where
  pub earlier : IfSome (headers_in verdict) (λ h. IsShownHeader h.earlier shown.earlier)
  pub parent : IfSome (headers_in verdict) (λ h. IsShownHeader h.parent shown.parent)
  pub later : IfSome (headers_in verdict) (λ h. IsShownHeader h.later shown.later)

-- what is answered of a verdict's headers: 1 where it has none that can be read
pub record AreHeadersShown (verdict : List ℕ) (old new : HsHeaders) (answer : ℤ) : Type 0 where
  pub exact : (answer ≡ pos 0) ↔ HasHeaders verdict
  pub absent : (HasHeaders verdict → ⊥) → answer ≡ pos 1
  pub shown : answer ≡ pos 0 → AreShownHeaders verdict new
  pub untouched : (answer ≡ pos 0 → ⊥) → new ≡ old
