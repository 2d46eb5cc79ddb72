use Rattle.std.proofs.Common.{◌≡◌, ◌<◌, List, length, get_or, subst}
use Rattle.std.proofs.lemmas.Bool.{iff_false}
use Rattle.blocks.specs.Headers.{Header}
use Rattle.audit_commits.proofs.Choices.{chosen_over, chosen_more}
use Rattle.audit_picture.specs.Choices.{IsNamed, names_in}
use Rattle.audit_picture.proofs.recent.named_blocks.Goals as goal
use Rattle.audit_picture.proofs.recent.named_blocks.Goals.{then-has+in_ok-push, else-has}

pub loop-header-preserved : goal.loop-header-preserved
loop-header-preserved c =
    let e = c.args.evidence.now in
    let Is = IsNamed (names_in c.args.named.now) in
    let i = c.loop-header.header-index in
    let x = c.header-item.result in
    let chosen = c.loop-header.chosen.items in
    let before = c.loop-header.invariant in
    let same = c.headers-header-items.ensures.value in
    let there : i < length e.headers = subst (λ (hs : List Header). i < length hs) same c.loop-header-test.true in
    let is : x ≡ get_or e.headers i x = subst (λ (hs : List Header). x ≡ get_or hs i x) same c.header-item.is in
    elim c.if-has.branch [
      | then-has+in_ok-push w ↦
          rw w.chosen-is (rw w.in_ok-push.ensures.items (chosen_more Is e.headers chosen i x c.headers-header-items.ensures.is_evidence.headers_rise there is before (c.has.ensures.0 w.if-has.true)))
      | else-has w ↦ rw w.chosen-is (chosen_over Is e.headers chosen i x there is before (iff_false c.has.ensures w.if-has.false))
    ]
