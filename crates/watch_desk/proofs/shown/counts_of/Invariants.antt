use Rattle.std.proofs.Common.{◌≡◌, take}
use Rattle.std.specs.Prelude.{sum_by}
use Rattle.watch_desk.specs.Shown.{capped, entries_of, frames_of}
use Rattle.watch_desk.proofs.shown.counts_of.Given as goal

abbrev pub invariant-loop-log : goal.invariant-loop-log
invariant-loop-log l = (l.frames ≡ capped (sum_by (frames_of l.reports) (take l.log-index l.logs))) × (l.entries ≡ capped (sum_by (entries_of l.reports) (take l.log-index l.logs)))
