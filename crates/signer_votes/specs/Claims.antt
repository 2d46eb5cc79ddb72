-- Votes as their signatures are checked: a key, a statement and a signature.
use Rattle.std.specs.Prelude.{◌≡◌, ◌<◌, ℕ, List}
use Rattle.lms_tree.specs.Tree.{Verifies}
use Rattle.lms_tree.specs.declared.public_key.PublicKey.{PublicKey}
use Rattle.blocks.specs.Committees.{n_of, keys_of, key_id_at, root_at}
use Rattle.blocks.specs.Genesis.{chain_id_of}
use Rattle.certificates.specs.Statements.{statement_text}
use Rattle.certificates.specs.declared.vote.SignedVote.{SignedVote}
use Rattle.signer_votes.specs.declared.claim.Claim.{Claim}

-- the signature is one of the message under the key (RFC 8554, section 5.4.2)
abbrev pub IsGoodOf : PublicKey → List ℕ → List ℕ → Type 0
IsGoodOf key message signature = Verifies key.key_id key.root message signature

abbrev pub IsGood : Claim → Type 0
IsGood c = IsGoodOf c.key c.statement c.signature

-- the committee has the replica, and the replica the key
abbrev pub IsByMember : List ℕ → SignedVote → Type 0
IsByMember committee v = (v.replica < n_of committee) × (v.key < keys_of committee v.replica)

-- what a vote of a replica of the committee claims
pub record IsClaimOf (committee : List ℕ) (v : SignedVote) (c : Claim) : Type 0 where
  pub member : IsByMember committee v
  pub key_id : c.key.key_id ≡ key_id_at committee v.replica v.key
  pub root : c.key.root ≡ root_at committee v.replica v.key
  pub statement : c.statement ≡ statement_text (chain_id_of committee) v.view v.id
  pub signature : c.signature ≡ v.signature

-- the claim is this one, byte for byte
abbrev pub IsSame : Claim → PublicKey → List ℕ → List ℕ → Type 0
IsSame c key message signature = (c.statement ≡ message) × (c.signature ≡ signature) × (c.key ≡ key)
