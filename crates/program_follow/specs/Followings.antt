-- What evidence says of the committee that comes next, and how it is told.
use Rattle.std.specs.Prelude.{◌≡◌, ◌≢◌, ◌++◌, ℕ, List, [], codes, decimal}
use Rattle.hex.specs.Hex.{encode_lower}
use Rattle.blocks.specs.Headers.{Header, header_id}
use Rattle.blocks.specs.Weights.{committee_of}
use Rattle.audit_evidence.specs.Evidence.{Evidence}
use Rattle.audit_commits.specs.Commits.{HasNoConflict}
use Rattle.handover_blocks.specs.Handovers.{IsFirstCommitted, IsHandover, handover_payload}
use Rattle.handover_proof.specs.Proofs.{IsHandedOverBy}
use Rattle.handover_search.specs.HandoverLines.{commits_after, handover_line}
use Rattle.culprit_search.specs.declared.report.Commit.{Commit}
use Rattle.program_follow.specs.declared.following.Following.{Following}
use Rattle.program_follow.specs.declared.following.Following.TheVariants.{Conflict, New, Another, Nobody}

-- no commits conflict, and none hands over
pub record IsNotHandedOver (e : Evidence) : Type 0 where
  pub agree : HasNoConflict (committee_of e.committee) e
  pub none : (b : Header) → IsFirstCommitted (committee_of e.committee) e IsHandover b → ⊥

-- of the committee of this file
abbrev pub IsFollowing : Evidence → List ℕ → Following → Type 0
IsFollowing e file Conflict = HasNoConflict (committee_of e.committee) e → ⊥
IsFollowing e file (New b) = IsHandedOverBy e b × (b.payload ≡ handover_payload file)
IsFollowing e file (Another b) = IsHandedOverBy e b × (b.payload ≢ handover_payload file)
IsFollowing e file Nobody = IsNotHandedOver e

-- ---- how it is told

-- " view V id ID"
unfoldable pub place_text : ℕ → List ℕ → List ℕ
place_text view id = codes " view " ++ decimal view ++ codes " id " ++ encode_lower id

-- "follows view V id ID"
unfoldable pub new_line : ℕ → List ℕ → List ℕ
new_line view id = codes "follows" ++ place_text view id ++ codes "\n"

-- "follows another view V id ID payload HEX"
unfoldable pub another_line : ℕ → (id payload : List ℕ) → List ℕ
another_line view id payload = codes "follows another" ++ place_text view id ++ codes " payload " ++ encode_lower payload ++ codes "\n"

-- "handover V ID committed, N commits after it", by these proved commits
abbrev pub committed_line : Header → List Commit → List ℕ
committed_line b commits = handover_line b (commits_after b commits)

-- where commits conflict there is no line
abbrev pub following_lines : Following → List Commit → List ℕ
following_lines Conflict commits = []
following_lines (New b) commits = committed_line b commits ++ new_line b.view (header_id b)
following_lines (Another b) commits = committed_line b commits ++ another_line b.view (header_id b) b.payload
following_lines Nobody commits = codes "follows none\n"

abbrev pub status_of : Following → ℕ
status_of Conflict = 3
status_of (New b) = 0
status_of (Another b) = 1
status_of Nobody = 1
