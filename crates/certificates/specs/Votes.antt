-- When a vote is good: its replica is one of the committee, has the key that the vote names, and signed the statement of
-- the vote's view and id with it (RFC 8554, section 5.4.2, for the signature).
use Rattle.std.specs.Prelude.{◌↔◌, ◌<◌, ◌++◌, ◌∷◌, ℕ, List, Bool, IsTrue}
use Rattle.byteorder.specs.Endian.{big_bytes}
use Rattle.lms_tree.specs.Tree.{Verifies}
use Rattle.blocks.specs.Committees.{n_of, keys_of, key_id_at, root_at}
use Rattle.blocks.specs.Genesis.{chain_id_of}
use Rattle.blocks.specs.declared.ballot.Ballot.{Ballot}
use Rattle.certificates.specs.Statements.{statement_text}
use Rattle.certificates.specs.declared.vote.SignedVote.{SignedVote}

-- the signature verifies under the replica's key of this number, on this view and id of the committee's chain
abbrev pub IsSignedBy : List ℕ → ℕ → ℕ → ℕ → List ℕ → List ℕ → Type 0
IsSignedBy committee replica key view id signature =
    Verifies (key_id_at committee replica key) (root_at committee replica key) (statement_text (chain_id_of committee) view id) signature

-- the vote is by a replica of the committee, and signed with the key of it that the vote names
pub record IsGoodVote (committee : List ℕ) (v : SignedVote) : Type 0 where
  pub known : v.replica < n_of committee
  pub key : v.key < keys_of committee v.replica
  pub signed : IsSignedBy committee v.replica v.key v.view v.id v.signature

-- the answer to whether the vote is good
abbrev pub IsAnswerOn : List ℕ → SignedVote → Bool → Type 0
IsAnswerOn committee v answer = IsTrue answer ↔ IsGoodVote committee v

-- what the vote is on
abbrev pub ballot_of : SignedVote → Ballot
ballot_of v = record { view = v.view; id = v.id }

-- the bytes of a vote: its replica, its key, its view, its block's id and its signature
unfoldable pub vote_text : SignedVote → List ℕ
vote_text v = big_bytes 2 v.replica ++ v.key ∷ (big_bytes 8 v.view ++ (v.id ++ v.signature))
