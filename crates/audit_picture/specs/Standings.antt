-- What evidence and its audit prove of a block.
use Rattle.std.specs.Prelude.{◌≡◌, ◌≢◌, ◌⊎◌, ℕ, List, Option, None, Some, Any}
use Rattle.blocks.specs.Committees.{n_of, weight_at}
use Rattle.blocks.specs.Genesis.{chain_id_of}
use Rattle.blocks.specs.Headers.{Header, header_id}
use Rattle.blocks.specs.Weights.{committee_of, weight_of}
use Rattle.audit_evidence.specs.Evidence.{Evidence}
use Rattle.audit_commits.specs.Commits.{IsCertified, has_vote}
use Rattle.culprit_search.specs.Reports.{Report}
use Rattle.culprit_search.specs.declared.report.Commit.{Commit}
use Rattle.culprit_search.specs.declared.report.Conflict.{Conflict}
use Rattle.audit_picture.specs.declared.scene.Standing.{Standing}
use Rattle.audit_picture.specs.declared.scene.Standing.TheVariants.{Genesis, Uncertified, Certified, Committed, Conflicting}
use Rattle.audit_picture.specs.declared.scene.Support.{Support}

-- ---- who voted for it

-- each replica counts once
abbrev pub once : ℕ → ℕ
once r = 1

-- how many replicas voted for it
abbrev pub voters_of : Evidence → Header → ℕ
voters_of e h = weight_of once (has_vote e.votes h.view (header_id h)) (n_of e.committee)

-- .. and how much these weigh
abbrev pub voters_weight_of : Evidence → Header → ℕ
voters_weight_of e h = weight_of (weight_at e.committee) (has_vote e.votes h.view (header_id h)) (n_of e.committee)

pub record IsSupport (e : Evidence) (h : Header) (s : Support) : Type 0 where
  pub votes : s.votes ≡ voters_of e h
  pub weight : s.weight ≡ voters_weight_of e h

-- ---- what is proved of it

-- the block of this id is one of the two that conflict
abbrev pub IsInConflict : Option Conflict → List ℕ → Type 0
IsInConflict None id = ⊥
IsInConflict (Some c) id = (c.first ≡ id) ⊎ (c.second ≡ id)

abbrev pub IsCommitted : List Commit → List ℕ → Type 0
IsCommitted commits id = Any (λ c. c.id ≡ id) commits

-- the first of these that is so: genesis, in conflict, committed, certified
abbrev pub IsStanding : Evidence → Report → Header → Standing → Type 0
IsStanding e r h Genesis = header_id h ≡ chain_id_of e.committee
IsStanding e r h Conflicting = (header_id h ≢ chain_id_of e.committee) × IsInConflict r.conflict (header_id h)
IsStanding e r h Committed =
    (header_id h ≢ chain_id_of e.committee) × (IsInConflict r.conflict (header_id h) → ⊥) × IsCommitted r.commits (header_id h)
IsStanding e r h Certified =
    (header_id h ≢ chain_id_of e.committee) × (IsInConflict r.conflict (header_id h) → ⊥) × (IsCommitted r.commits (header_id h) → ⊥)
    × IsCertified (committee_of e.committee) e h
IsStanding e r h Uncertified =
    (header_id h ≢ chain_id_of e.committee) × (IsInConflict r.conflict (header_id h) → ⊥) × (IsCommitted r.commits (header_id h) → ⊥)
    × (IsCertified (committee_of e.committee) e h → ⊥)

-- .. with those who voted for it
pub record IsJudged (e : Evidence) (r : Report) (h : Header) (word : Standing) (s : Support) : Type 0 where
  pub standing : IsStanding e r h word
  pub support : IsSupport e h s
