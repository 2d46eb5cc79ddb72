use Rattle.std.proofs.Common.{◌≡◌, ◌++◌}
use Rattle.std.specs.List.{flat_map}
use Rattle.certificates.specs.Certificates.{endorsement_text}
use Rattle.handover_renewals.specs.Endorsed.{texts_of}
use Rattle.handover_renewals.specs.Composing.{seals_upto}
use Rattle.handover_renewals.proofs.text.put_seals.Given as goal

abbrev pub invariant-loop-s : goal.invariant-loop-s
invariant-loop-s l = l.text.items ≡ l.initial.text.items ++ flat_map endorsement_text (seals_upto (texts_of l.endorsements) l.s)
