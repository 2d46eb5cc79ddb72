use Rattle.std.proofs.Common.{◌∙◌, List, ℕ, ap, sym, drop, take, subst}
use Rattle.std.proofs.lemmas.List.{drop_min, take_min}
use Rattle.std.proofs.lemmas.Result.{IfOk-weaker}
use Rattle.blocks.specs.HeaderReading.{header_in}
use Rattle.certificates.specs.CertificateReading.{certificate_in}
use Rattle.replica_requests.specs.Requests.{IsOfBlock}
use Rattle.replica_requests.specs.declared.request.Request.{Request}
use Rattle.replica_requests.proofs.request.block_in.Goals as goal

pub returns-in-Err : goal.returns-in-Err
returns-in-Err c =
    let bytes = c.args.bytes.now in
    let front = c.split_at.ensures.front ∙ ap (λ (n : ℕ). take n bytes) c.min.ensures ∙ take_min 84 bytes in
    ap (λ (b : List ℕ). header_in b) (sym front) ∙ sym c.in-Err.ensures.first_refusal

pub returns-in-Ok-read : goal.returns-in-Ok-read
returns-in-Ok-read c =
    let bytes = c.args.bytes.now in
    let front = c.split_at.ensures.front ∙ ap (λ (n : ℕ). take n bytes) c.min.ensures ∙ take_min 84 bytes in
    let back = c.split_at.ensures.back ∙ ap (λ (n : ℕ). drop n bytes) c.min.ensures ∙ drop_min 84 bytes in (
      ap (λ (b : List ℕ). header_in b) (sym front) ∙ sym c.in-Ok.ensures.first_refusal,
      ap (λ (b : List ℕ). certificate_in b) (sym back) ∙ sym (c.in-Ok-read.ensures.first_refusal (λ e. absurd (cc e))),
    )

pub returns-in-Err-read : goal.returns-in-Err-read
returns-in-Err-read c =
    let bytes = c.args.bytes.now in
    let front = c.split_at.ensures.front ∙ ap (λ (n : ℕ). take n bytes) c.min.ensures ∙ take_min 84 bytes in
    let back = c.split_at.ensures.back ∙ ap (λ (n : ℕ). drop n bytes) c.min.ensures ∙ drop_min 84 bytes in
    IfOk-weaker c.refused_certificate.result _ _ (λ request what.
    subst (λ (r : Request). IsOfBlock bytes r) (sym what.0) (
      c.in-Ok.header,
      ap (λ (b : List ℕ). header_in b) (sym front) ∙ sym c.in-Ok.ensures.first_refusal,
      ap (λ (b : List ℕ). certificate_in b) (sym back) ∙ sym (c.in-Err-read.ensures.first_refusal (λ e. what.1 (cc e))),
    )) c.refused_certificate.ensures
