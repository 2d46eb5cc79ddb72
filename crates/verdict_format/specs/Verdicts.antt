-- The text of a verdict, as docs/FORMATS.md, "Verdict", lays it out: what stands where in it.
use Rattle.std.specs.Prelude.{◌≡◌, ◌⊎◌, ◌+◌, ◌==◌, ℕ, List, length, slice_index, codes, Option, Some, None, Result, Ok, Err, if◌then◌else◌}
use Rattle.base_wire.specs.Pieces.{piece, number_at}
use Rattle.certificates.specs.declared.vote.SignedVote.{SignedVote}
use Rattle.blocks.specs.Headers.{Header}
use Rattle.blocks.specs.HeaderReading.{header_in}
use Rattle.lms_tree.specs.declared.TheConstants.{SIGNATURE_LEN}
use Rattle.blocks.specs.declared.ballot.Ballot.{Ballot}
use Rattle.verdict_format.specs.declared.verdict.TheConstants.{CHAIN_AT, EARLIER_AT, HEADERS_AT, ID_IN_VOTE, KIND_AT, LATER_AT, REPLICA_AT, SIGNATURE_IN_VOTE, VIEW_IN_VOTE}

-- ---- what each verdict says

-- the chain that the votes are on
abbrev pub chain_in : List ℕ → List ℕ
chain_in bytes = piece 32 bytes CHAIN_AT

-- the accused replica
abbrev pub replica_in : List ℕ → ℕ
replica_in bytes = number_at 2 bytes REPLICA_AT

-- the rule that it broke: 1 for a double vote, 2 for a lock violation
abbrev pub verdict_kind_in : List ℕ → ℕ
verdict_kind_in bytes = slice_index bytes KIND_AT

-- the view and the id of the vote that stands here
abbrev pub ballot_at : List ℕ → ℕ → Ballot
ballot_at bytes at = record { view = number_at 8 bytes (at + VIEW_IN_VOTE); id = piece 32 bytes (at + ID_IN_VOTE) }

-- its two votes; of a lock violation the first is the earlier, of a double vote either is
abbrev pub earlier_in : List ℕ → Ballot
earlier_in bytes = ballot_at bytes EARLIER_AT

abbrev pub later_in : List ℕ → Ballot
later_in bytes = ballot_at bytes LATER_AT

-- the numbers of the replica's keys that signed them
abbrev pub earlier_key_in : List ℕ → ℕ
earlier_key_in bytes = slice_index bytes EARLIER_AT

abbrev pub later_key_in : List ℕ → ℕ
later_key_in bytes = slice_index bytes LATER_AT

-- and their signatures
unfoldable pub earlier_signature_in : List ℕ → List ℕ
earlier_signature_in bytes = piece SIGNATURE_LEN bytes (EARLIER_AT + SIGNATURE_IN_VOTE)

unfoldable pub later_signature_in : List ℕ → List ℕ
later_signature_in bytes = piece SIGNATURE_LEN bytes (LATER_AT + SIGNATURE_IN_VOTE)

-- a vote with the numbers of its replica and its key, and its signature
abbrev pub signed_by : ℕ → ℕ → Ballot → List ℕ → SignedVote
signed_by replica key vote signature = record { replica = replica; view = vote.view; id = vote.id; key = key; signature = signature }

abbrev pub earlier_vote_in : List ℕ → SignedVote
earlier_vote_in bytes = signed_by (replica_in bytes) (earlier_key_in bytes) (earlier_in bytes) (earlier_signature_in bytes)

abbrev pub later_vote_in : List ℕ → SignedVote
later_vote_in bytes = signed_by (replica_in bytes) (later_key_in bytes) (later_in bytes) (later_signature_in bytes)

-- ---- what a verdict of a lock violation says besides

-- the header of the earlier vote's block, that of its parent, and that of the later vote's block
pub record VotedHeaders : Type 0 where
  pub earlier : Header
  pub parent : Header
  pub later : Header

-- three headers that were read, if each was
abbrev pub all_read : {R : Type 0} → Result Header R → Result Header R → Result Header R → Option VotedHeaders
all_read (Ok e) (Ok p) (Ok w) = Some (record { earlier = e; parent = p; later = w })
all_read (Ok e) (Ok p) (Err r) = None
all_read (Ok e) (Err r) w = None
all_read (Err r) p w = None

-- the headers that stand behind the votes, if they are readable
unfoldable pub headers_in : List ℕ → Option VotedHeaders
headers_in bytes = all_read (header_in (piece 84 bytes HEADERS_AT)) (header_in (piece 84 bytes (HEADERS_AT + 84))) (header_in (piece 84 bytes (HEADERS_AT + 168)))

-- ---- verdicts

-- there are two rules
abbrev pub IsKind : ℕ → Type 0
IsKind kind = (kind ≡ 1) ⊎ (kind ≡ 2)

-- a verdict has headers where it is of a lock violation
abbrev pub verdict_length : ℕ → ℕ
verdict_length kind = HEADERS_AT + (if kind == 2 then 252 else 0)

-- these bytes have the form of a verdict
pub record IsVerdict (bytes : List ℕ) : Type 0 where
  pub magic : piece 4 bytes 0 ≡ codes "HSX2"
  pub kind : IsKind (verdict_kind_in bytes)
  pub long : length bytes ≡ verdict_length (verdict_kind_in bytes)
