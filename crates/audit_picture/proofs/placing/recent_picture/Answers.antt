use Rattle.std.proofs.Common.{String, string_bytes, subst}
use Rattle.std.specs.declared.alloc.Global.{Global}
use Rattle.std.proofs.lemmas.Result.{IfOk-weaker}
use Rattle.audit_picture.specs.Drawings.{IsRecentPicture}
use Rattle.audit_picture.specs.Findings.{Findings}
use Rattle.audit_picture.specs.Pictures.{IsPicture, drawn_in}
use Rattle.audit_picture.proofs.placing.recent_picture.Goals as goal

pub returns : goal.returns
returns c =
    let scene = c.in_ok-scene.scene in
    IfOk-weaker c.draw.result _ (λ (text : String Global). IsRecentPicture c.args.evidence.now c.args.report.now (string_bytes text))
    (λ text is. record {
      drawn = drawn_in scene;
      is_drawn = c.in_ok-scene.ensures.drawn;
      picture = subst (λ (f : Findings). IsPicture f (drawn_in scene) (string_bytes text)) c.in_ok-scene.ensures.findings is;
    }) c.draw.ensures
