-- When a certificate is good: a quorum of replicas voted for its view and id (HotStuff, Yin and
-- others, PODC 2019). Genesis needs no votes.
use Rattle.std.specs.Prelude.{◌≡◌, ◌⊎◌, ◌≤◌, ℕ, List, length}
use Rattle.std.specs.List.{All, AllPairs, sum_by}
use Rattle.blocks.specs.Committees.{n_of, weight_at}
use Rattle.blocks.specs.Weights.{quorum_of}
use Rattle.blocks.specs.Genesis.{chain_id_of}
use Rattle.certificates.specs.declared.certificate.Endorsement.{Endorsement}
use Rattle.certificates.specs.Certificates.{Certificate, IsBefore, vote_of}
use Rattle.certificates.specs.Votes.{IsGoodVote}

-- an entry is a good vote on the certificate's view and id
abbrev pub IsGoodEntry : List ℕ → Certificate → Endorsement → Type 0
IsGoodEntry committee c e = IsGoodVote committee (vote_of c e)

-- the weight of those who voted
abbrev pub voters_weight : List ℕ → Certificate → ℕ
voters_weight committee c = sum_by (λ e. weight_at committee e.replica) c.entries

-- entries of a quorum's weight, n at the most, whose replicas rise, each a good vote on the certificate's view and id
pub record IsQuorum (committee : List ℕ) (c : Certificate) : Type 0 where
  pub least : quorum_of committee ≤ voters_weight committee c
  pub most : length c.entries ≤ n_of committee
  pub rising : AllPairs IsBefore c.entries
  pub good : All (IsGoodEntry committee c) c.entries

-- no entries, on genesis with view 0
pub record IsOnGenesis (committee : List ℕ) (c : Certificate) : Type 0 where
  pub none : length c.entries ≡ 0
  pub view : c.view ≡ 0
  pub id : c.id ≡ chain_id_of committee

abbrev pub IsGoodCertificate : List ℕ → Certificate → Type 0
IsGoodCertificate committee c = IsQuorum committee c ⊎ IsOnGenesis committee c
