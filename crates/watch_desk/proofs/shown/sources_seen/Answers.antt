use Rattle.watch_desk.specs.Shown.{IsShownAt, known_facts, seen_facts}
use Rattle.watch_desk.proofs.Showing.{shown_more}
use Rattle.watch_desk.proofs.shown.sources_seen.Goals as goal

pub loop-i-preserved : goal.loop-i-preserved
loop-i-preserved c =
    rw c.in_ok-push.ensures.items
    (shown_more seen_facts (known_facts c.args.reports.now) (IsShownAt c.args.places.now) c.loop-i.seen.items c.args.sources.now c.loop-i.i c.in_ok-source.source c.index-sources-i.result c.loop-i-test.true c.index-sources-i.is c.loop-i.invariant c.in_ok-source.ensures.facts c.in_ok-source.ensures.placed)
