use Rattle.std.proofs.Common.{◌≡◌, ◌<◌, List, length, get_or, subst}
use Rattle.blocks.specs.Headers.{Header}
use Rattle.audit_picture.specs.Choices.{IsOther, names_in}
use Rattle.audit_picture.proofs.Picking.{some_more, some_over}
use Rattle.audit_picture.proofs.recent.other_blocks.Goals as goal
use Rattle.audit_picture.proofs.recent.other_blocks.Goals.{then-has+then-is_other+in_ok-push, else-has}

pub loop-header-preserved : goal.loop-header-preserved
loop-header-preserved c =
    let e = c.args.evidence.now in
    let Is = IsOther e (names_in c.args.named.now) in
    let i = c.loop-header.header-index in
    let x = c.header-item.result in
    let others = c.loop-header.others.items in
    let before = c.loop-header.invariant in
    let same = c.headers-header-items.ensures.value in
    let there : i < length e.headers = subst (λ (hs : List Header). i < length hs) same c.loop-header-test.true in
    let is : x ≡ get_or e.headers i x = subst (λ (hs : List Header). x ≡ get_or hs i x) same c.header-item.is in
    elim c.if-has.branch [
      | then-has+then-is_other+in_ok-push w ↦
          rw w.others-is (rw w.in_ok-push.ensures.items (some_more Is e.headers others i x c.headers-header-items.ensures.is_evidence.headers_rise there is before (w.is_other.ensures w.if-is_other.true)))
      | else-has w ↦ rw w.others-is (some_over Is e.headers others i x there is before)
    ]
