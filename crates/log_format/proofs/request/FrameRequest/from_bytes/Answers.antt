use Rattle.std.proofs.Common.{◌≡◌, ℕ, Some, List, length, refl, take, sym, ap, subst, ◌∙◌, arith}
use Rattle.std.proofs.lemmas.Bool.{false≢true}
use Rattle.log_format.specs.Requests.{IsRequest, request_text}
use Rattle.log_format.specs.declared.request.FrameRequest.{FrameRequest}
use Rattle.log_format.proofs.Requests.{request_at, request_found, request_again, request_head, request_is}
use Rattle.log_format.proofs.request.FrameRequest.from_bytes.Goals as goal

pub returns-then-not-has_request_form-clause-only :
    goal.returns-then-not-has_request_form-clause-only
returns-then-not-has_request_form-clause-only c = λ r is_request is.
    let head = request_head r in
    absurd (false≢true (sym c.if-not-has_request_form.true ∙ c.has_request_form.ensures.1 (ap length is ∙ head.0, ap (λ (t : List ℕ). take 4 t) is ∙ head.1)))

pub returns-clause-found : goal.returns-clause-found
returns-clause-found c =
    let form = c.if-not-has_request_form.ensures.0 refl in
    let found = request_found c.args.bytes.now (λ i. let h = c.type_inv.bytes i in omega (arith, h)) form.0 form.1 in
    subst (λ (r : FrameRequest). IsRequest r × (c.args.bytes.now ≡ request_text r)) (request_is c.args.bytes.now c.u32_at.result c.u32_at-2.result c.u32_at.ensures c.u32_at-2.ensures) found

pub returns-clause-only : goal.returns-clause-only
returns-clause-only c = λ r is_request is.
    ap (λ (x : FrameRequest). Some x)
    (sym (request_is c.args.bytes.now c.u32_at.result c.u32_at-2.result c.u32_at.ensures c.u32_at-2.ensures) ∙ ap (λ (t : List ℕ). request_at t) is ∙ request_again r is_request)
