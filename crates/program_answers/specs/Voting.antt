-- What is answered of a vote and of an endorsement.
use Rattle.std.specs.Prelude.{◌≡◌, ◌≢◌, ◌↔◌, ℕ, ℤ, List, length, pos, slice_index}
use Rattle.lms_tree.specs.declared.TheConstants.{SIGNATURE_LEN}
use Rattle.base_wire.specs.Pieces.{number_at, piece}
use Rattle.blocks.specs.Committees.{IsCommittee}
use Rattle.certificates.specs.Votes.{IsGoodVote, vote_text}
use Rattle.certificates.specs.VoteChecks.{IsVoteRefusal, vote_refusal_number}
use Rattle.certificates.specs.declared.vote.SignedVote.{SignedVote}
use Rattle.certificates.specs.declared.vote.TheConstants.{VOTE_LEN}
use Rattle.certificates.specs.declared.vote.VoteRefusal.{VoteRefusal}
use Rattle.handover_keys.specs.Endorsements.{IsGoodEndorsement}
use Rattle.handover_keys.specs.EndorsementChecks.{IsEndorsementRefusal, endorsement_refusal_number}
use Rattle.handover_keys.specs.declared.checking.EndorsementRefusal.{EndorsementRefusal}
use Rattle.program_answers.specs.Judging.{IsCommitteeRefusedAs}

-- ---- votes

-- the vote that the bytes spell, if they are as many as a vote has
abbrev pub vote_in : List ℕ → SignedVote
vote_in bytes = record {
  replica = number_at 2 bytes 0;
  view = number_at 8 bytes 3;
  id = piece 32 bytes 11;
  key = slice_index bytes 2;
  signature = piece SIGNATURE_LEN bytes 43;
}

-- they are as many, and the vote is good
pub record IsGoodVoteIn (committee bytes : List ℕ) : Type 0 where
  pub long : length bytes ≡ VOTE_LEN
  pub good : IsGoodVote committee (vote_in bytes)

-- the vote is refused by the first test that it does not pass, and the answer is the number of that
pub record IsVoteRefusedAs (committee bytes : List ℕ) (answer : ℤ) : Type 0 where
  pub refusal : VoteRefusal
  pub first : IsVoteRefusal committee (vote_in bytes) refusal
  pub number : answer ≡ pos (vote_refusal_number refusal)

-- what is answered: 4 where the bytes are no vote's; what is good is spelled by them
pub record IsVoteJudged (committee bytes : List ℕ) (answer : ℤ) : Type 0 where
  pub exact : (answer ≡ pos 0) ↔ (IsCommittee committee × IsGoodVoteIn committee bytes)
  pub spelled : answer ≡ pos 0 → vote_text (vote_in bytes) ≡ bytes
  pub first_refusal : IsCommittee committee → length bytes ≡ VOTE_LEN → (IsGoodVote committee (vote_in bytes) → ⊥) → IsVoteRefusedAs committee bytes answer
  pub no_vote : IsCommittee committee → length bytes ≢ VOTE_LEN → answer ≡ pos 4
  pub committee_refused : (IsCommittee committee → ⊥) → IsCommitteeRefusedAs committee answer

-- ---- endorsements

-- the endorsement is refused by the first test that it does not pass, and the answer is the number of that
pub record IsEndorsementRefusedAs (committee bytes : List ℕ) (answer : ℤ) : Type 0 where
  pub refusal : EndorsementRefusal
  pub first : IsEndorsementRefusal committee bytes refusal
  pub number : answer ≡ pos (endorsement_refusal_number refusal)

-- what is answered
pub record IsEndorsementJudged (committee bytes : List ℕ) (answer : ℤ) : Type 0 where
  pub exact : (answer ≡ pos 0) ↔ (IsCommittee committee × IsGoodEndorsement committee bytes)
  pub first_refusal : IsCommittee committee → (IsGoodEndorsement committee bytes → ⊥) → IsEndorsementRefusedAs committee bytes answer
  pub committee_refused : (IsCommittee committee → ⊥) → IsCommitteeRefusedAs committee answer
