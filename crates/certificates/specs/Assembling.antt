-- A certificate that is put together from votes, and why votes make none.
use Rattle.std.specs.Prelude.{◌≡◌, ◌≢◌, ◌<◌, ◌≤◌, ℕ, List, map}
use Rattle.std.specs.List.{All, AllPairs, sum_by}
use Rattle.std.specs.List.Sorted.{IsPermutation}
use Rattle.blocks.specs.Committees.{weight_at}
use Rattle.blocks.specs.Weights.{quorum_of}
use Rattle.certificates.specs.declared.certificate.Endorsement.{Endorsement}
use Rattle.certificates.specs.declared.vote.SignedVote.{SignedVote}
use Rattle.certificates.specs.declared.assembling.AssembleRefusal.{AssembleRefusal}
use Rattle.certificates.specs.declared.assembling.AssembleRefusal.TheVariants.{Memory, Mixed, TooFew, Double}
use Rattle.certificates.specs.Certificates.{Certificate, IsBefore}

-- the vote is for this view and id
pub record IsVoteFor (view : ℕ) (id : List ℕ) (v : SignedVote) : Type 0 where
  pub same_view : v.view ≡ view
  pub same_id : v.id ≡ id

-- the votes are for one view and id
abbrev pub AgreeOnBlock : List SignedVote → Type 0
AgreeOnBlock votes = AllPairs (λ v w. IsVoteFor v.view v.id w) votes

-- no two votes are by one replica
abbrev pub AreByDifferent : List SignedVote → Type 0
AreByDifferent votes = AllPairs (λ v w. v.replica ≢ w.replica) votes

-- the weight of the votes, each with that of its replica
abbrev pub votes_weight : List ℕ → List SignedVote → ℕ
votes_weight committee votes = sum_by (λ v. weight_at committee v.replica) votes

-- what a certificate keeps of a vote beside its own view and id: its replica, its key and its signature
abbrev pub endorsement_of : SignedVote → Endorsement
endorsement_of v = record { replica = v.replica; key = v.key; signature = v.signature }

-- the certificate has these votes and no others, sorted by replica, on their view and id
pub record IsAssembled (votes : List SignedVote) (c : Certificate) : Type 0 where
  pub on_block : All (IsVoteFor c.view c.id) votes
  pub same_votes : IsPermutation (map endorsement_of votes) c.entries
  pub rising : AllPairs IsBefore c.entries

-- ---- refusals

-- the votes pass the tests before this one, and fail this one; memory is asked for behind all of them
abbrev pub IsAssembleRefusal : AssembleRefusal → List ℕ → List SignedVote → Type 0
IsAssembleRefusal Memory committee votes = AgreeOnBlock votes × (quorum_of committee ≤ votes_weight committee votes) × AreByDifferent votes
IsAssembleRefusal Mixed committee votes = AgreeOnBlock votes → ⊥
IsAssembleRefusal TooFew committee votes = AgreeOnBlock votes × (votes_weight committee votes < quorum_of committee)
IsAssembleRefusal Double committee votes =
    AgreeOnBlock votes × (quorum_of committee ≤ votes_weight committee votes) × (AreByDifferent votes → ⊥)

-- the votes pass each test
pub record AreAssemblable (committee : List ℕ) (votes : List SignedVote) : Type 0 where
  pub agree : AgreeOnBlock votes
  pub enough : quorum_of committee ≤ votes_weight committee votes
  pub different : AreByDifferent votes

-- the number that docs/REFUSALS.md gives a refusal
abbrev pub assemble_refusal_number : AssembleRefusal → ℕ
assemble_refusal_number Memory = 1
assemble_refusal_number Mixed = 2
assemble_refusal_number TooFew = 3
assemble_refusal_number Double = 4
