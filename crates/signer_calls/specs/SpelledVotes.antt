-- Votes as bytes spell them.
use Rattle.std.specs.Prelude.{◌≡◌, ◌<◌, ◌^◌, ℕ, List, length}
use Rattle.certificates.specs.Votes.{vote_text}
use Rattle.certificates.specs.declared.vote.SignedVote.{SignedVote}

-- its numbers and bytes are as long as a vote keeps them
pub record IsVote (v : SignedVote) : Type 0 where
  pub replica : v.replica < 2 ^ 16
  pub view : v.view < 2 ^ 64
  pub id : length v.id ≡ 32
  pub signature : length v.signature ≡ 1452

abbrev pub SpellsVote : List ℕ → SignedVote → Type 0
SpellsVote bytes v = IsVote v × (vote_text v ≡ bytes)
