use Rattle.std.proofs.Common.{◌≡◌, ◌++◌, take}
use Rattle.std.specs.List.{flat_map}
use Rattle.certificates.specs.Certificates.{endorsement_text}
use Rattle.certificates.proofs.certificate.put_entries.Given as goal

abbrev pub invariant-loop-e : goal.invariant-loop-e
invariant-loop-e l = l.text.items ≡ l.fn.text.items ++ flat_map endorsement_text (take l.e-index l.entries)
