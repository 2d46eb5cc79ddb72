-- What is drawn of evidence and its audit.
use Rattle.std.specs.Prelude.{◌≡◌, ℕ, List, [], Option, None, Some, IsPermutation, map}
use Rattle.std.specs.List.{All, AllZip}
use Rattle.blocks.specs.Headers.{Header}
use Rattle.blocks.specs.Weights.{committee_of}
use Rattle.audit_commits.specs.Commits.{HasNoConflict}
use Rattle.audit_evidence.specs.Evidence.{Evidence}
use Rattle.culprit_search.specs.Reports.{Report}
use Rattle.handover_blocks.specs.Handovers.{IsFirstCommitted, IsHandover}
use Rattle.audit_picture.specs.Choices.{AreOfAudit, AreRecent}
use Rattle.audit_picture.specs.Findings.{findings_of}
use Rattle.audit_picture.specs.Lanes.{IsCulpritOf}
use Rattle.audit_picture.specs.Pictures.{Drawn, IsPicture}
use Rattle.audit_picture.specs.Standings.{IsJudged}
use Rattle.audit_picture.specs.declared.scene.Block.{Block}

-- with what is proved of it, and who voted for it
abbrev pub IsJudgedBlock : Evidence → Report → Block → Type 0
IsJudgedBlock e r b = IsJudged e r b.header b.standing b.support

-- no commits conflict, and this is the view of the first block that hands over on a chain that is proved to be committed; none where there is
-- no such block, or commits conflict
abbrev pub IsHandoverView : Evidence → Report → Option ℕ → Type 0
IsHandoverView e r None =
    r.conflict ≡ None → HasNoConflict (committee_of e.committee) e → (b : Header) → IsFirstCommitted (committee_of e.committee) e IsHandover b → ⊥
IsHandoverView e r (Some view) =
    (r.conflict ≡ None) × (b : Header) × IsFirstCommitted (committee_of e.committee) e IsHandover b × (view ≡ b.view)

-- the blocks that are chosen, each once and as what is proved of it; the culprit of each verdict; and where the ledger was handed over
pub record IsDrawnOf (e : Evidence) (r : Report) (chosen : List Header) (drawn : Drawn) : Type 0 where
  pub each : IsPermutation chosen (map (λ b. b.header) drawn.blocks)
  pub judged : All (IsJudgedBlock e r) drawn.blocks
  pub culprits : AllZip IsCulpritOf r.verdicts drawn.culprits
  pub handover : IsHandoverView e r drawn.handover

-- .. of an audit, and the report of each source
pub record IsDrawn (e : Evidence) (r : Report) (drawn : Drawn) : Type 0 where
  pub chosen : List Header
  pub are_chosen : AreOfAudit e chosen
  pub of : IsDrawnOf e r chosen drawn
  pub reports : drawn.reports ≡ e.sources

-- .. of a watch, which tells of its sources elsewhere
pub record IsRecent (e : Evidence) (r : Report) (drawn : Drawn) : Type 0 where
  pub chosen : List Header
  pub are_chosen : AreRecent e r chosen
  pub of : IsDrawnOf e r chosen drawn
  pub reports : drawn.reports ≡ []

-- the picture of a watch
pub record IsRecentPicture (e : Evidence) (r : Report) (text : List ℕ) : Type 0 where
  pub drawn : Drawn
  pub is_drawn : IsRecent e r drawn
  pub picture : IsPicture (findings_of e.committee r) drawn text
