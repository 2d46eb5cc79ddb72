use Rattle.std.proofs.Common.{◌≡◌, ◌+◌, ◌*◌, true, length, sym, ap, ◌∙◌, rules, arith}
use Rattle.certificates.specs.declared.certificate.TheConstants.{ENDORSEMENT_LEN}
use Rattle.certificates.specs.CertificateReading.{count_in, entries_in, is_rising, has_count}
use Rattle.certificates.proofs.CertificateLaws.{is_certificate_of}
use Rattle.certificates.proofs.certificate.Certificate.read_all.Goals as goal

pub invariant_of-result : goal.invariant_of-result
invariant_of-result c =
    let bytes = c.args.bytes.now in
    let count : c.u16_at-count.result ≡ count_in bytes = c.u16_at-count.ensures in
    let long : length bytes ≡ 42 + ENDORSEMENT_LEN * count_in bytes = search rules in
    let read = c.in_ok-entries.ensures.ok ∙ ap (entries_in bytes) count in
    let rising : is_rising c.in_ok-entries.entries.items ≡ true = ap is_rising c.in_ok-entries.ensures.ok ∙ sym c.is_rising_in.ensures ∙ search rules in
    let counted : has_count c.u64_at-view.result (count_in bytes) ≡ true = ap (has_count c.u64_at-view.result) (sym count) ∙ sym c.has_count.ensures ∙ search rules in
    is_certificate_of bytes _ (λ i. omega (arith, c.type_inv.bytes i)) long c.u64_at-view.ensures c.array_at.ensures
    read rising counted
