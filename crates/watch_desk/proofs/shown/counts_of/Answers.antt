use Rattle.std.proofs.Common.{◌∙◌}
use Rattle.watch_desk.specs.Shown.{entries_of, frames_of}
use Rattle.watch_desk.proofs.Showing.{capped_more}
use Rattle.watch_desk.proofs.shown.counts_of.Goals as goal

pub loop-log-preserved : goal.loop-log-preserved
loop-log-preserved c =
    let reports = c.args.reports.now in
    let logs = c.args.logs.now in
    let i = c.loop-log.log-index in
    let log = c.log-item.result in
    let here = c.counts_at-here in (
      c.saturating_add-frames.ensures ∙ capped_more (frames_of reports) logs i log c.loop-log.frames here.result.0 c.loop-log-test.true c.log-item.is c.loop-log.invariant.0 here.ensures.frames,
      c.saturating_add-entries.ensures ∙ capped_more (entries_of reports) logs i log c.loop-log.entries here.result.1 c.loop-log-test.true c.log-item.is c.loop-log.invariant.1 here.ensures.entries,
    )
