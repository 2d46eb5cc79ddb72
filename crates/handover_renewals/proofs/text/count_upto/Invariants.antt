use Rattle.std.proofs.Common.{◌≡◌, length}
use Rattle.handover_renewals.specs.Endorsed.{texts_of}
use Rattle.handover_renewals.specs.Composing.{seals_upto}
use Rattle.handover_renewals.proofs.text.count_upto.Given as goal

abbrev pub invariant-loop-s : goal.invariant-loop-s
invariant-loop-s l = l.count ≡ length (seals_upto (texts_of l.endorsements) l.s)
