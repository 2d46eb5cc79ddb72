use Rattle.std.proofs.Common.{◌≡◌, ◌∙◌, ◌≤◌, ap, sym, length, arith, rules}
use Rattle.std.specs.Prelude.{codes}
use Rattle.base_wire.specs.Pieces.{number_at, piece}
use Rattle.certificates.specs.CertificateReading.{certificate_in}
use Rattle.handover_renewals.proofs.RenewalTexts.{err_is, made, past_rest, read_err, read_no_memory, read_ok, rest_is, rest_of, view_there}
use Rattle.handover_renewals.proofs.format.Renewal.read_all.Goals as goal

pub returns-in_err-certificate-clause-value : goal.returns-in_err-certificate-clause-value
returns-in_err-certificate-clause-value c other =
    let bytes = c.args.bytes.now in
    let magic : piece 4 bytes 0 ≡ codes "HSR1" = search rules in
    let long : 78 ≤ length bytes = omega arith in
    let view : number_at 8 bytes 36 ≡ 1 = sym c.u64_at.ensures ∙ c.if-u64_at-ne-RENEWAL_VIEW.false in
    read_err bytes c.in_err-certificate.field-0.0 (certificate_in (rest_of bytes)) c.from_residual.result (past_rest bytes long magic view)
    c.in_err-certificate.ensures.first_refusal (err_is _ _ c.from_residual.ensures.1) other

pub returns-in_err-certificate-clause-memory : goal.returns-in_err-certificate-clause-memory
returns-in_err-certificate-clause-memory c memory =
    let bytes = c.args.bytes.now in
    let magic : piece 4 bytes 0 ≡ codes "HSR1" = search rules in
    let long : 78 ≤ length bytes = omega arith in
    let view : number_at 8 bytes 36 ≡ 1 = sym c.u64_at.ensures ∙ c.if-u64_at-ne-RENEWAL_VIEW.false in
    read_no_memory bytes c.in_err-certificate.field-0.0 (certificate_in (rest_of bytes)) c.from_residual.result (past_rest bytes long magic view)
    c.in_err-certificate.ensures.memory (err_is _ _ c.from_residual.ensures.1) memory

pub invariant_of-result : goal.invariant_of-result
invariant_of-result c =
    let bytes = c.args.bytes.now in
    let found = c.in_ok-certificate.ensures.found in
    let view : number_at 8 bytes 36 ≡ 1 = sym c.u64_at.ensures ∙ c.if-u64_at-ne-RENEWAL_VIEW.false in
    record {
      chain = omega arith;
      view = sym (view_there bytes c.in_ok-certificate.certificate found.0 (sym (rest_is bytes) ∙ found.1)) ∙ view;
      certificate = found.0;
    }

pub returns-clause-value : goal.returns-clause-value
returns-clause-value c other =
    let bytes = c.args.bytes.now in
    let magic : piece 4 bytes 0 ≡ codes "HSR1" = search rules in
    let long : 78 ≤ length bytes = omega arith in
    let view : number_at 8 bytes 36 ≡ 1 = sym c.u64_at.ensures ∙ c.if-u64_at-ne-RENEWAL_VIEW.false in
    let tests = past_rest bytes long magic view in
    ap (made c.in_ok-certificate.certificate) c.array_at.ensures
    ∙ read_ok bytes c.in_ok-certificate.certificate (certificate_in (rest_of bytes)) tests c.in_ok-certificate.ensures.first_refusal
