-- What is told of a handover, and of what is committed behind it.
use Rattle.std.specs.Prelude.{◌≡◌, ◌⊎◌, ◌++◌, ℕ, List, [], None, codes, count_by, decimal, nat_lt}
use Rattle.hex.specs.Hex.{encode_lower}
use Rattle.blocks.specs.Headers.{Header, header_id}
use Rattle.blocks.specs.Weights.{committee_of}
use Rattle.audit_evidence.specs.Evidence.{Evidence}
use Rattle.audit_commits.specs.Commits.{HasNoConflict}
use Rattle.culprit_search.specs.Reports.{Report}
use Rattle.culprit_search.specs.declared.report.Commit.{Commit}
use Rattle.handover_blocks.specs.Handovers.{IsFirstCommitted, IsHandover}

-- how many of the commits are above a block; where no commits conflict, the block is an ancestor of each of them
abbrev pub commits_after : Header → List Commit → ℕ
commits_after b commits = count_by (λ c. nat_lt b.view c.view) commits

-- " committed, N commits after it"
unfoldable pub after_text : ℕ → List ℕ
after_text after = codes " committed, " ++ decimal after ++ codes " commits after it\n"

-- "handover V ID committed, N commits after it"
unfoldable pub handover_line : Header → ℕ → List ℕ
handover_line b after = codes "handover " ++ decimal b.view ++ codes " " ++ encode_lower (header_id b) ++ after_text after

-- the report names no conflict; and this block is the first that hands over on a chain that evidence proves to be committed, above which
-- are so many of the report's commits
pub record IsHandoverLine (e : Evidence) (r : Report) (text : List ℕ) : Type 0 where
  pub agree : r.conflict ≡ None
  pub block : Header
  pub first : IsFirstCommitted (committee_of e.committee) e IsHandover block
  pub told : text ≡ handover_line block (commits_after block r.commits)

-- no such block is proved, or commits conflict, and nothing is told
pub record IsNoHandoverLine (e : Evidence) (r : Report) (text : List ℕ) : Type 0 where
  pub none : r.conflict ≡ None → HasNoConflict (committee_of e.committee) e → (b : Header) → IsFirstCommitted (committee_of e.committee) e IsHandover b → ⊥
  pub told : text ≡ []

-- what is told of a handover
abbrev pub IsHandoverText : Evidence → Report → List ℕ → Type 0
IsHandoverText e r text = IsHandoverLine e r text ⊎ IsNoHandoverLine e r text
