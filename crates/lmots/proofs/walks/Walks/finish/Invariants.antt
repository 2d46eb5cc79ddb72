use Rattle.std.proofs.Common.{◌≡◌, length}
use Rattle.lmots.specs.Walks.{AreFirst, walked}
use Rattle.lmots.proofs.walks.Walks.finish.Given as goal

abbrev pub invariant-loop-i : goal.invariant-loop-i
invariant-loop-i l = (length l.ends ≡ 34) × AreFirst l.i (walked l.self) l.ends
