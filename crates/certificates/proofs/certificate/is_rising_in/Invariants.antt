use Rattle.std.proofs.Common.{◌≡◌, ◌≤◌, drop}
use Rattle.certificates.specs.CertificateReading.{entries_in, rises_from, is_rising}
use Rattle.certificates.proofs.certificate.is_rising_in.Given as goal

abbrev pub invariant-loop-k : goal.invariant-loop-k
invariant-loop-k l = record {
  so_far : is_rising (entries_in l.bytes l.count) ≡ rises_from l.least (drop l.k (entries_in l.bytes l.count));
  small : l.least ≤ 65536;
}
