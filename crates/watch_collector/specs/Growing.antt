-- Evidence that grows: which votes were named, and which of them are good.
use Rattle.std.specs.Prelude.{◌≡◌, ◌↔◌, ◌⊎◌, ◌+◌, ℕ, List, [], ◌∷◌}
use Rattle.std.specs.List.{Contains}
use Rattle.blocks.specs.Genesis.{genesis_of}
use Rattle.blocks.specs.Headers.{Header}
use Rattle.certificates.specs.Votes.{IsGoodVote}
use Rattle.certificates.specs.declared.vote.SignedVote.{SignedVote}
use Rattle.audit_evidence.specs.Evidence.{Evidence}
use Rattle.audit_evidence.specs.Gathering.{Gathered}
use Rattle.audit_evidence.specs.declared.source.SourceReport.{SourceReport}

-- the vote is not good
abbrev pub IsBadVote : List ℕ → SignedVote → Type 0
IsBadVote committee v = IsGoodVote committee v → ⊥

-- genesis is named, and each vote stands with the answer to its check
pub record IsJudged (committee : List ℕ) (headers : List Header) (good bad : List SignedVote) : Type 0 where
  pub genesis : Contains headers (genesis_of committee)
  pub all_good : (v : SignedVote) → Contains good v → IsGoodVote committee v
  pub none_good : (v : SignedVote) → Contains bad v → IsBadVote committee v

-- of some votes those that are not held
pub record AreTheNewOf (held votes new : List SignedVote) : Type 0 where
  pub of : (v : SignedVote) → Contains new v → Contains votes v
  pub none_held : (v : SignedVote) → Contains new v → Contains held v → ⊥
  pub all : (v : SignedVote) → Contains votes v → Contains held v ⊎ Contains new v

-- so many of the votes are not good
abbrev pub AreBadAmong : List ℕ → List SignedVote → ℕ → Type 0
AreBadAmong committee [] n = n ≡ 0
AreBadAmong committee (v ∷ vs) n =
    (IsGoodVote committee v × AreBadAmong committee vs n)
    ⊎ (IsBadVote committee v × ((m : ℕ) × (n ≡ m + 1) × AreBadAmong committee vs m))

-- of what was named it has all headers, and the good ones of the votes
pub record IsShownOf (g : Gathered) (sources : List SourceReport) (e : Evidence) : Type 0 where
  pub under : e.committee ≡ g.committee
  pub headers : e.headers ≡ g.headers
  pub votes : (v : SignedVote) → Contains e.votes v ↔ (Contains g.votes v × IsGoodVote g.committee v)
  pub reports : e.sources ≡ sources
