use Rattle.std.proofs.Common.{◌++◌, ◌≤◌, List, length, ap, ◌∙◌, arith}
use Rattle.std.specs.List.{flat_map}
use Rattle.std.proofs.lemmas.List.{take_all}
use Rattle.watch_report.specs.declared.snapshot.Culprit.{Culprit}
use Rattle.watch_web.specs.Rows.{culprit_row}
use Rattle.watch_web.proofs.Joining.{put_more}
use Rattle.watch_web.proofs.rows.put_culprits.Goals as goal

pub loop-culprit-preserved : goal.loop-culprit-preserved
loop-culprit-preserved c =
    put_more culprit_row c.args.text.now.items c.loop-culprit.text.items c.put_culprit.new.text.items c.args.culprits.now c.loop-culprit.culprit-index
    c.culprit-item.result c.loop-culprit-test.true c.loop-culprit.invariant (c.in_ok-put_culprit.ensures ∙ ap (λ (s : Culprit). c.loop-culprit.text.items ++ culprit_row s) c.culprit-item.is)

pub returns : goal.returns
returns c =
    let end : length c.args.culprits.now ≤ c.loop-culprit.culprit-index = omega arith in
    c.loop-culprit.invariant ∙ ap (λ (xs : List Culprit). c.args.text.now.items ++ flat_map culprit_row xs) (take_all c.loop-culprit.culprit-index c.args.culprits.now end)
