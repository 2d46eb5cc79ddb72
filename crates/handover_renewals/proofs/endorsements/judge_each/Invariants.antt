use Rattle.std.proofs.Common.{take}
use Rattle.std.specs.List.{All}
use Rattle.base_wire.specs.Pieces.{AreBytes}
use Rattle.handover_renewals.specs.Endorsed.{AreGood, texts_of}
use Rattle.handover_renewals.proofs.endorsements.judge_each.Given as goal

abbrev pub invariant-loop-place : goal.invariant-loop-place
invariant-loop-place l = record {
  good : AreGood l.old (take l.place (texts_of l.endorsements));
  bytes : All AreBytes (take l.place (texts_of l.endorsements));
}
