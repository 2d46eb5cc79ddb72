use Rattle.std.proofs.Common.{◌++◌, ◌≤◌, List, length, ap, ◌∙◌, arith}
use Rattle.std.specs.List.{flat_map}
use Rattle.std.proofs.lemmas.List.{take_all}
use Rattle.watch_report.specs.declared.source.SourceSeen.{SourceSeen}
use Rattle.watch_web.specs.Metrics.{sample}
use Rattle.watch_web.proofs.Joining.{put_more}
use Rattle.watch_web.proofs.metrics.put_samples.Goals as goal

pub loop-source-preserved : goal.loop-source-preserved
loop-source-preserved c =
    put_more (sample c.args.family) c.args.text.now.items c.loop-source.text.items c.put_sample.new.text.items c.args.sources.now c.loop-source.source-index
    c.source-item.result c.loop-source-test.true c.loop-source.invariant
    (c.in_ok-put_sample.ensures ∙ ap (λ (s : SourceSeen). c.loop-source.text.items ++ sample c.args.family s) c.source-item.is)

pub returns : goal.returns
returns c =
    let end : length c.args.sources.now ≤ c.loop-source.source-index = omega arith in
    c.loop-source.invariant ∙ ap (λ (xs : List SourceSeen). c.args.text.now.items ++ flat_map (sample c.args.family) xs) (take_all c.loop-source.source-index c.args.sources.now end)
