use Rattle.std.proofs.Common.{◌≡◌}
use Rattle.certificates.specs.CertificateReading.{entries_in}
use Rattle.certificates.proofs.certificate.entries_in.Given as goal

abbrev pub invariant-loop-k : goal.invariant-loop-k
invariant-loop-k l = l.entries.items ≡ entries_in l.bytes l.k
