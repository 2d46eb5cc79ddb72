use Rattle.std.proofs.Common.{◌∙◌, List, map, ap, subst, sym}
use Rattle.std.specs.List.{All}
use Rattle.std.specs.Prelude.{IsPermutation}
use Rattle.std.proofs.lemmas.Result.{IfOk-weaker}
use Rattle.blocks.specs.Headers.{Header}
use Rattle.audit_picture.specs.Drawings.{IsJudgedBlock}
use Rattle.audit_picture.specs.Standings.{IsJudged}
use Rattle.audit_picture.specs.declared.placing.Judged.{Judged}
use Rattle.audit_picture.specs.declared.scene.Block.{Block}
use Rattle.audit_picture.proofs.placing.judged_blocks.Goals as goal

pub returns-clause-judged : goal.returns-clause-judged
returns-clause-judged c =
    let e = c.args.evidence.now in
    let r = c.args.report.now in
    let order : All (λ (j : Judged). IsJudged e r j.header j.standing j.support) c.deref.result.now =
    subst (λ (js : List Judged). All (λ (j : Judged). IsJudged e r j.header j.standing j.support) js) (sym c.deref.ensures.value) c.in_ok-order.ensures.judged in
    IfOk-weaker c.blocks_of.result _ (λ blocks. All (IsJudgedBlock e r) blocks.items) (λ blocks is. is e r order) c.blocks_of.ensures.judged

pub returns-clause-same : goal.returns-clause-same
returns-clause-same c =
    let chosen = c.args.chosen.now in
    IfOk-weaker c.blocks_of.result _ (λ blocks. IsPermutation chosen (map (λ (b : Block). b.header) blocks.items))
    (λ blocks is.
    let ordered = ap (λ (js : List Judged). map (λ (j : Judged). j.header) js) (sym c.deref.ensures.value) in
    subst (λ (hs : List Header). IsPermutation chosen hs) (ordered ∙ sym is) c.in_ok-order.ensures.same) c.blocks_of.ensures.same
