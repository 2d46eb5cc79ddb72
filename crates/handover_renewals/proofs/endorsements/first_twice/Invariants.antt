use Rattle.std.proofs.Common.{take}
use Rattle.handover_renewals.specs.Endorsed.{AreByDifferent, texts_of}
use Rattle.handover_renewals.proofs.endorsements.first_twice.Given as goal

abbrev pub invariant-loop-later : goal.invariant-loop-later
invariant-loop-later l = AreByDifferent (take l.later (texts_of l.endorsements))
