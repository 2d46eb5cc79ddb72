-- What is shown of an entry of a log.
use Rattle.std.specs.Prelude.{ℕ, ◌≡◌, ◌<◌, ◌++◌, ◌⊎◌, List, [], ◌∷◌, Option, None, Some, IsSomeAnd, codes, decimal}
use Rattle.base_wire.specs.Pieces.{number_at}
use Rattle.blocks.specs.Headers.{Header}
use Rattle.blocks.specs.Committees.{n_of}
use Rattle.certificates.specs.Certificates.{Certificate, vote_of}
use Rattle.certificates.specs.Votes.{IsGoodVote}
use Rattle.certificates.specs.declared.vote.SignedVote.{SignedVote}
use Rattle.certificates.specs.declared.certificate.Endorsement.{Endorsement}
use Rattle.log_format.specs.EntryText.{Entry, IsEntryOf, own_vote_of}
use Rattle.log_format.specs.EntryReading.{IsFirstFailed, entry_refusal_number}
use Rattle.log_format.specs.declared.entry.KeyedSignature.{KeyedSignature}
use Rattle.log_format.specs.declared.entry.EntryRefusal.{EntryRefusal}
use Rattle.handover_blocks.specs.Handovers.{IsHandover}
use Rattle.program_show.specs.Lines.{entry_front, handover_line, key_part, parent_part, payload_line, refused_entry_line, voter_part}
use Rattle.program_show.specs.Marks.{IsMark}
use Rattle.program_show.specs.Names.{entry_refusal_name}
use Rattle.program_show.specs.Series.{AreOf}
use Rattle.program_show.specs.declared.mark.Mark.{Mark}
use Rattle.program_show.specs.declared.mark.Mark.TheVariants.{Good, Bad}

-- ---- the replica that signed the own vote

-- the entry's own vote is a good vote of the replica
abbrev pub IsOwnVoteBy : List ℕ → Entry → ℕ → Type 0
IsOwnVoteBy committee e replica = IsSomeAnd (own_vote_of e replica) (IsGoodVote committee)

-- it is the least such replica, or there is none
abbrev pub IsSigner : List ℕ → Entry → Option ℕ → Type 0
IsSigner committee e (Some r) = IsOwnVoteBy committee e r × ((q : ℕ) → q < r → IsOwnVoteBy committee e q → ⊥)
IsSigner committee e None = (q : ℕ) → q < n_of committee → IsOwnVoteBy committee e q → ⊥

-- " by R" or " by none"
abbrev pub signer_text : Option ℕ → List ℕ
signer_text (Some r) = codes " by " ++ decimal r
signer_text None = codes " by none"

abbrev pub signer_mark : Option ℕ → Mark
signer_mark (Some r) = Good
signer_mark None = Bad

-- ---- an entry

-- the key and the index that an own vote names; its signature begins with the index
abbrev pub own_key_part : KeyedSignature → List ℕ
own_key_part own = key_part own.key (number_at 4 own.signature 0)

-- what is shown of the own vote, if there is one: its key and index, and its signer where a committee was given to ask
abbrev pub IsOwnPart : Option (List ℕ) → Entry → Option KeyedSignature → List ℕ → List Mark → Type 0
IsOwnPart committee e None text marks = (text ≡ []) × (marks ≡ [])
IsOwnPart None e (Some own) text marks = (text ≡ own_key_part own) × (marks ≡ [])
IsOwnPart (Some committee) e (Some own) text marks =
    (signer : Option ℕ) × IsSigner committee e signer × (text ≡ own_key_part own ++ signer_text signer) × (marks ≡ signer_mark signer ∷ [])

-- what is shown of another replica's vote: its number, and the mark
abbrev pub IsVotePart : Option (List ℕ) → SignedVote → List ℕ → List Mark → Type 0
IsVotePart committee v text marks =
    (mark : Mark) × IsMark committee v mark × (text ≡ voter_part v.replica mark) × (marks ≡ mark ∷ [])

-- .. of vote k of a certificate
abbrev pub IsVoterPart : Option (List ℕ) → Certificate → ℕ → Endorsement → List ℕ → List Mark → Type 0
IsVoterPart committee certificate k e text marks = IsVotePart committee (vote_of certificate e) text marks

abbrev pub AreVoterParts : Option (List ℕ) → Certificate → List ℕ → List Mark → Type 0
AreVoterParts committee certificate text marks = AreOf (IsVoterPart committee certificate) 0 certificate.entries text marks

-- "vote" or "lock"
abbrev pub act_name : Option KeyedSignature → List ℕ
act_name (Some own) = codes "vote"
act_name None = codes "lock"

-- "entry K vote view V id ID key K index I by R parent V ID voters R R .."
pub record IsEntryLine (committee : Option (List ℕ)) (k : ℕ) (e : Entry) (text : List ℕ) (marks : List Mark) : Type 0 where
  pub own_text : List ℕ
  pub own_marks : List Mark
  pub own : IsOwnPart committee e e.own own_text own_marks
  pub voters_text : List ℕ
  pub voters_marks : List Mark
  pub voters : AreVoterParts committee e.certificate voters_text voters_marks
  pub text_is : text ≡ entry_front k (act_name e.own) e.block ++ own_text ++ parent_part e.block ++ voters_text ++ codes "\n"
  pub marks_are : marks ≡ own_marks ++ voters_marks

-- a text was added, of which this holds
abbrev pub AddsOnly : List ℕ → List ℕ → (List ℕ → Type 0) → Type 0
AddsOnly text text' Holds = (added : List ℕ) × Holds added × (text' ≡ text ++ added)

-- what a block hands over to, if it hands over
abbrev pub IsHandoverPart : Header → List ℕ → Type 0
IsHandoverPart b text = (IsHandover b → text ≡ handover_line b.payload) × ((IsHandover b → ⊥) → text ≡ [])

-- what is said of an entry's block: its payload, and to whom it hands over
pub record IsBlockText (b : Header) (text : List ℕ) : Type 0 where
  pub handover_text : List ℕ
  pub handover : IsHandoverPart b handover_text
  pub text_is : text ≡ payload_line b.payload ++ handover_text

-- the bytes are the entry that is shown
pub record IsEntryShown (committee : Option (List ℕ)) (k : ℕ) (payload text : List ℕ) (marks : List Mark) : Type 0 where
  pub entry : Entry
  pub spelled : IsEntryOf payload entry
  pub line_text : List ℕ
  pub line : IsEntryLine committee k entry line_text marks
  pub block_text : List ℕ
  pub block : IsBlockText entry.block block_text
  pub text_is : text ≡ line_text ++ block_text

-- the bytes are no entry, and the line says why
pub record IsRefusalShown (k : ℕ) (payload text : List ℕ) (marks : List Mark) : Type 0 where
  pub refusal : EntryRefusal
  pub first : IsFirstFailed payload refusal
  pub text_is : text ≡ refused_entry_line k (entry_refusal_number refusal) (entry_refusal_name refusal)
  pub none : marks ≡ []

-- what is shown of payload k of a log
abbrev pub IsPayloadShown : Option (List ℕ) → ℕ → List ℕ → List ℕ → List Mark → Type 0
IsPayloadShown committee k payload text marks = IsEntryShown committee k payload text marks ⊎ IsRefusalShown k payload text marks

abbrev pub ArePayloadsShown : Option (List ℕ) → List (List ℕ) → List ℕ → List Mark → Type 0
ArePayloadsShown committee payloads text marks = AreOf (IsPayloadShown committee) 0 payloads text marks
