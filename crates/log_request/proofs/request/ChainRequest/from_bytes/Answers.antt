use Rattle.std.proofs.Common.{◌≡◌, ℕ, Some, List, length, refl, take, sym, ap, subst, ◌∙◌, arith}
use Rattle.std.proofs.lemmas.Bool.{false≢true}
use Rattle.log_request.specs.ChainRequests.{IsChainRequest, chain_request_text}
use Rattle.log_request.specs.declared.request.ChainRequest.{ChainRequest}
use Rattle.log_request.proofs.ChainRequestBytes.{length-chain_request_text, magic_stands, request_again, request_at, request_found, request_is}
use Rattle.log_request.proofs.request.ChainRequest.from_bytes.Goals as goal

pub returns-then-not-has_chain_form-clause-only :
    goal.returns-then-not-has_chain_form-clause-only
returns-then-not-has_chain_form-clause-only c = λ r is_request is.
    absurd (false≢true (sym c.if-not-has_chain_form.true ∙ c.has_chain_form.ensures.1 (ap length is ∙ length-chain_request_text r is_request, ap (λ (t : List ℕ). take 4 t) is ∙ magic_stands r)))

pub returns-clause-found : goal.returns-clause-found
returns-clause-found c =
    let form = c.if-not-has_chain_form.ensures.0 refl in
    let found = request_found c.args.bytes.now (λ i. let h = c.type_inv.bytes i in omega (arith, h)) form.0 form.1 in
    subst (λ (r : ChainRequest). IsChainRequest r × (c.args.bytes.now ≡ chain_request_text r)) (request_is c.args.bytes.now c.array_at.result c.u32_at.result c.u32_at-2.result c.array_at.ensures c.u32_at.ensures c.u32_at-2.ensures) found

pub returns-clause-only : goal.returns-clause-only
returns-clause-only c = λ r is_request is.
    ap (λ (x : ChainRequest). Some x)
    (sym (request_is c.args.bytes.now c.array_at.result c.u32_at.result c.u32_at-2.result c.array_at.ensures c.u32_at.ensures c.u32_at-2.ensures) ∙ ap (λ (t : List ℕ). request_at t) is ∙ request_again r is_request)
