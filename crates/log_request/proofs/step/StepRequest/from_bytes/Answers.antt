use Rattle.std.proofs.Common.{◌≡◌, ℕ, List, Some, length, slice_index_or, take, sym, ap, ◌∙◌}
use Rattle.std.proofs.lemmas.Bool.{false≢true}
use Rattle.log_request.specs.declared.step.StepRequest.{StepRequest}
use Rattle.log_request.proofs.StepRequestBytes.{length-step_request_text, magic_stands, number_stands, request_is, step_found}
use Rattle.log_request.proofs.step.StepRequest.from_bytes.Goals as goal

pub returns-then-not-has_step_form-clause-only :
    goal.returns-then-not-has_step_form-clause-only
returns-then-not-has_step_form-clause-only c = λ r is_request is.
    absurd (false≢true (sym c.if-not-has_step_form.true ∙ c.has_step_form.ensures.1 (ap length is ∙ length-step_request_text r is_request, ap (λ (t : List ℕ). take 4 t) is ∙ magic_stands r)))

pub returns-in_err-piece-clause-only : goal.returns-in_err-piece-clause-only
returns-in_err-piece-clause-only c = λ r is_request is.
    let number = ap (λ (t : List ℕ). slice_index_or t 36 0) is ∙ number_stands r is_request in
    let none = c.in_err-piece.was in
    let some = c.of.ensures.only r.piece number in
    absurd (cc)

pub returns-clause-found : goal.returns-clause-found
returns-clause-found c =
    let form = c.has_step_form.ensures.0 c.if-not-has_step_form.false in
    step_found c.args.bytes.now c.array_at.result c.in_ok-piece.piece form.0 form.1 c.array_at.ensures c.in_ok-piece.ensures.found

pub returns-clause-only : goal.returns-clause-only
returns-clause-only c = λ r is_request is.
    let number = ap (λ (t : List ℕ). slice_index_or t 36 0) is ∙ number_stands r is_request in
    let some = c.of.ensures.only r.piece number in
    let was = c.in_ok-piece.was in
    let same : c.in_ok-piece.piece ≡ r.piece = cc in
    ap (λ (x : StepRequest). Some x) (request_is c.args.bytes.now c.array_at.result c.in_ok-piece.piece r is_request is c.array_at.ensures same)
