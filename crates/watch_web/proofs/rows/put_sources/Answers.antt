use Rattle.std.proofs.Common.{◌++◌, ◌≤◌, List, length, ap, ◌∙◌, arith}
use Rattle.std.specs.List.{flat_map}
use Rattle.std.proofs.lemmas.List.{take_all}
use Rattle.watch_report.specs.declared.source.SourceSeen.{SourceSeen}
use Rattle.watch_web.specs.Rows.{source_row}
use Rattle.watch_web.proofs.Joining.{put_more}
use Rattle.watch_web.proofs.rows.put_sources.Goals as goal

pub loop-source-preserved : goal.loop-source-preserved
loop-source-preserved c =
    put_more (source_row c.args.every c.args.top c.args.second) c.args.text.now.items c.loop-source.text.items c.put_source.new.text.items c.args.sources.now c.loop-source.source-index
    c.source-item.result c.loop-source-test.true c.loop-source.invariant (c.in_ok-put_source.ensures ∙ ap (λ (s : SourceSeen). c.loop-source.text.items ++ source_row c.args.every c.args.top c.args.second s) c.source-item.is)

pub returns : goal.returns
returns c =
    let end : length c.args.sources.now ≤ c.loop-source.source-index = omega arith in
    c.loop-source.invariant ∙ ap (λ (xs : List SourceSeen). c.args.text.now.items ++ flat_map (source_row c.args.every c.args.top c.args.second) xs) (take_all c.loop-source.source-index c.args.sources.now end)
