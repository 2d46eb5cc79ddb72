use Rattle.std.proofs.Common.{◌++◌, ◌≤◌, List, length, ap, ◌∙◌, arith}
use Rattle.std.specs.Prelude.{codes}
use Rattle.std.specs.List.{flat_map}
use Rattle.std.proofs.lemmas.List.{take_all}
use Rattle.watch_report.specs.declared.snapshot.Culprit.{Culprit}
use Rattle.watch_web.specs.Reports.{culprit_text}
use Rattle.watch_web.proofs.Joining.{put_more, two_pieces}
use Rattle.watch_web.proofs.lists.put_more_culprits.Goals as goal

pub loop-culprit-preserved : goal.loop-culprit-preserved
loop-culprit-preserved c =
    put_more (λ (y : Culprit). codes "," ++ culprit_text y) c.args.text.now.items c.loop-culprit.text.items c.put_culprit.new.text.items c.args.culprits.now c.loop-culprit.culprit-index
    c.culprit-item.result c.loop-culprit-test.true c.loop-culprit.invariant
    (two_pieces _ _ _ _ _ c.in_ok-append.ensures.ok c.in_ok-put_culprit.ensures ∙ ap (λ (s : Culprit). c.loop-culprit.text.items ++ (codes "," ++ culprit_text s)) c.culprit-item.is)

pub returns : goal.returns
returns c =
    let end : length c.args.culprits.now ≤ c.loop-culprit.culprit-index = omega arith in
    c.loop-culprit.invariant ∙ ap (λ (xs : List Culprit). c.args.text.now.items ++ flat_map (λ (y : Culprit). codes "," ++ culprit_text y) xs) (take_all c.loop-culprit.culprit-index c.args.culprits.now end)
