use Rattle.std.proofs.Common.{◌++◌, ◌≤◌, List, length, ap, ◌∙◌, arith}
use Rattle.std.specs.Prelude.{codes}
use Rattle.std.specs.List.{flat_map}
use Rattle.std.proofs.lemmas.List.{take_all}
use Rattle.watch_report.specs.declared.source.SourceSeen.{SourceSeen}
use Rattle.watch_web.specs.Reports.{source_text}
use Rattle.watch_web.proofs.Joining.{put_more, two_pieces}
use Rattle.watch_web.proofs.lists.put_more_sources.Goals as goal

pub loop-source-preserved : goal.loop-source-preserved
loop-source-preserved c =
    put_more (λ (y : SourceSeen). codes "," ++ source_text y) c.args.text.now.items c.loop-source.text.items c.put_source.new.text.items c.args.sources.now c.loop-source.source-index
    c.source-item.result c.loop-source-test.true c.loop-source.invariant
    (two_pieces _ _ _ _ _ c.in_ok-append.ensures.ok c.in_ok-put_source.ensures ∙ ap (λ (s : SourceSeen). c.loop-source.text.items ++ (codes "," ++ source_text s)) c.source-item.is)

pub returns : goal.returns
returns c =
    let end : length c.args.sources.now ≤ c.loop-source.source-index = omega arith in
    c.loop-source.invariant ∙ ap (λ (xs : List SourceSeen). c.args.text.now.items ++ flat_map (λ (y : SourceSeen). codes "," ++ source_text y) xs) (take_all c.loop-source.source-index c.args.sources.now end)
