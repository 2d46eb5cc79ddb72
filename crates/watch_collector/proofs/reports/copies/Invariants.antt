use Rattle.std.proofs.Common.{◌≡◌, take}
use Rattle.watch_collector.proofs.reports.copies.Given as goal

abbrev pub invariant-loop-report : goal.invariant-loop-report
invariant-loop-report l = l.copies.items ≡ take l.report-index l.reports
