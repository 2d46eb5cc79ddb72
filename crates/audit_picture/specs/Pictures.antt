-- The text of a picture.
use Rattle.std.specs.Prelude.{◌≡◌, ◌++◌, ℕ, List, Option, codes}
use Rattle.audit_evidence.specs.declared.source.SourceReport.{SourceReport}
use Rattle.audit_picture.specs.Findings.{Findings, findings_text}
use Rattle.audit_picture.specs.DrawnBlocks.{AreBlocks}
use Rattle.audit_picture.specs.Descriptions.{IsDescription}
use Rattle.audit_picture.specs.Lanes.{IsCulpritsText}
use Rattle.audit_picture.specs.Sources.{AreSourceLines}
use Rattle.audit_picture.specs.declared.scene.Block.{Block}
use Rattle.audit_picture.specs.declared.scene.Culprit.{Culprit}
use Rattle.audit_picture.specs.declared.scene.Scene.{Scene}

abbrev pub front : List ℕ
front = codes "<svg xmlns=\"http://www.w3.org/2000/svg\" "

abbrev pub end : List ℕ
end = codes "</svg>\n"

-- what a picture draws beside its findings
pub record Drawn : Type 0 where
  pub blocks : List Block
  pub culprits : List Culprit
  pub reports : List SourceReport
  pub handover : Option ℕ

abbrev pub drawn_in : Scene → Drawn
drawn_in scene = record { blocks = scene.blocks.items; culprits = scene.culprits.items; reports = scene.sources.items; handover = scene.handover }

-- an SVG document that says these findings and draws this; no clause says where
pub record IsPicture (findings : Findings) (drawn : Drawn) (text : List ℕ) : Type 0 where
  pub above : List ℕ
  pub description : List ℕ
  pub is_description : IsDescription findings.conflict drawn.culprits description
  pub lines : List ℕ
  pub blocks : List ℕ
  pub are_blocks : AreBlocks findings.replicas findings.total drawn.handover drawn.blocks blocks
  pub lanes : List ℕ
  pub are_lanes : IsCulpritsText drawn.culprits lanes
  pub legend : List ℕ
  pub sources : List ℕ
  pub are_sources : AreSourceLines drawn.reports sources
  pub text_is : text ≡ front ++ above ++ description ++ findings_text findings ++ lines ++ blocks ++ lanes ++ legend ++ sources ++ end
