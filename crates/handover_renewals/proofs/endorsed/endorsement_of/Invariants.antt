use Rattle.std.proofs.Common.{◌≡◌, None, take}
use Rattle.handover_renewals.specs.Endorsed.{endorsement_of, texts_of}
use Rattle.handover_renewals.proofs.endorsed.endorsement_of.Given as goal

abbrev pub invariant-loop-bytes : goal.invariant-loop-bytes
invariant-loop-bytes l = endorsement_of (take l.bytes-index (texts_of l.endorsements)) l.s ≡ None
