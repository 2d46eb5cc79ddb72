use Rattle.std.proofs.Common.{◌<◌, ◌∙◌, length, map, refl, ap, subst, sym, arith}
use Rattle.std.proofs.lemmas.List.Elements.{All-push}
use Rattle.audit_picture.specs.Drawings.{IsJudgedBlock}
use Rattle.audit_picture.specs.Standings.{IsJudged}
use Rattle.audit_picture.specs.declared.placing.Judged.{Judged}
use Rattle.audit_picture.specs.declared.scene.Block.{Block}
use Rattle.std.proofs.lemmas.List.{take_all}
use Rattle.audit_picture.proofs.Copies.{next_mapped}
use Rattle.audit_picture.proofs.placing.blocks_of.Goals as goal

pub loop-judged-preserved : goal.loop-judged-preserved
loop-judged-preserved c =
    let order = c.args.order.now in
    let judged = c.judged-item.result in
    let i = c.loop-judged.judged-index in
    let within : i < length order = omega arith in
    record {
      judged = λ e r all.
          let one : IsJudged e r judged.header judged.standing judged.support =
          subst (λ (j : Judged). IsJudged e r j.header j.standing j.support) (sym c.judged-item.is) (all i judged within) in
          rw c.in_ok-push.ensures.items
          (All-push (IsJudgedBlock e r) c.loop-judged.blocks.items _ (c.loop-judged.invariant.judged e r all) one);
      same = rw c.in_ok-push.ensures.items
          (next_mapped (λ (j : Judged). j.header) (λ (b : Block). b.header) order c.loop-judged.blocks.items i judged _ within c.judged-item.is refl c.loop-judged.invariant.same);
    }

pub returns-clause-same : goal.returns-clause-same
returns-clause-same c =
    c.loop-judged.invariant.same ∙ ap (map (λ (j : Judged). j.header)) (take_all c.loop-judged.judged-index c.args.order.now (omega arith))
