use Rattle.std.proofs.Common.{◌≡◌, take}
use Rattle.watch_desk.specs.Hearing.{highest}
use Rattle.watch_desk.proofs.certified.highest.Given as goal

abbrev pub invariant-loop-block : goal.invariant-loop-block
invariant-loop-block l = l.top ≡ highest 0 (take l.block-index l.blocks)
