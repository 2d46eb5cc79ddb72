use Rattle.std.proofs.Common.{◌≡◌, None, nat_eq, take}
use Rattle.std.specs.List.{find}
use Rattle.handover_renewals.proofs.judging.signature_of.Given as goal

abbrev pub invariant-loop-k : goal.invariant-loop-k
invariant-loop-k l = find (λ e. nat_eq e.replica l.s) (take l.k l.certificate.entries) ≡ None
