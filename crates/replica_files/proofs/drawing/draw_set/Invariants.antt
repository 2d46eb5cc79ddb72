use Rattle.std.specs.List.{AllZip}
use Rattle.replica_files.specs.Drawing.{IsDrawn, bound_ids}
use Rattle.replica_files.proofs.drawing.draw_set.Given as goal

-- a seed for each id so far
abbrev pub invariant-loop-k : goal.invariant-loop-k
invariant-loop-k g l = AllZip (IsDrawn (g.S.DrawSeed.draws l.seeds)) (bound_ids l.behind.chain l.behind.replica l.k) l.secrets.items
