use Rattle.std.proofs.Common.{◌≡◌, ◌∙◌, IfOk, List, [], Result, Ok, Err, subst, sym}
use Rattle.std.specs.declared.alloc.AllocError.{AllocError}
use Rattle.blocks.specs.Headers.{Header}
use Rattle.culprit_search.specs.Reports.{Report}
use Rattle.audit_evidence.specs.Evidence.{Evidence}
use Rattle.audit_evidence.specs.declared.source.SourceReport.{SourceReport}
use Rattle.audit_picture.specs.Choices.{AreRecent}
use Rattle.audit_picture.specs.Drawings.{IsDrawnOf, IsRecent}
use Rattle.audit_picture.specs.Pictures.{drawn_in}
use Rattle.audit_picture.specs.declared.scene.Scene.{Scene}
use Rattle.audit_picture.proofs.placing.recent_scene_of.Goals as goal

drawn : (e : Evidence) (r : Report) (chosen : List Header) (sources : List SourceReport) (result : Result Scene AllocError) → AreRecent e r chosen → sources ≡ []
    → IfOk result (λ scene. IsDrawnOf e r chosen (drawn_in scene)) → IfOk result (λ scene. scene.sources.items ≡ sources) → IfOk result (λ scene. IsRecent e r (drawn_in scene))
drawn e r chosen sources (Ok scene) are none of told = record { chosen = chosen; are_chosen = are; of = of; reports = told ∙ none }
drawn e r chosen sources (Err error) are none of told = tt

pub returns-clause-drawn : goal.returns-clause-drawn
returns-clause-drawn c =
    let e = c.args.evidence.now in
    let r = c.args.report.now in
    let are : AreRecent e r c.deref-3.result.now = subst (λ (hs : List Header). AreRecent e r hs) (sym c.deref-3.ensures.value) c.in_ok-chosen.ensures in
    drawn e r c.deref-3.result.now c.new-sources.result.items c.scene_with.result are c.new-sources.ensures.items c.scene_with.ensures.drawn c.scene_with.ensures.sources
