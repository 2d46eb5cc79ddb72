use Rattle.std.proofs.Common.{◌≡◌, ◌≤◌, ◌<◌, ◌∙◌, List, ℕ, ap, arith, inl, inr, length, nat_lt, refl, subst, sym, true, false}
use Rattle.std.proofs.lemmas.Bool.Decides.{nat_tests}
use Rattle.std.proofs.lemmas.List.{take_all}
use Rattle.std.proofs.lemmas.Result.{IfOk-weaker}
use Rattle.replica_requests.specs.Intakes.{HeldLine, held}
use Rattle.replica_requests.specs.RequestLines.{AsksFor}
use Rattle.replica_requests.specs.declared.reading.TheConstants.{LONGEST_LINE}
use Rattle.replica_requests.proofs.reading.OpenLine.request.Goals as goal

pub returns-then-self : goal.returns-then-self
unfolding held
returns-then-self c line is =
    let flag : true ≡ nat_lt LONGEST_LINE (length line) = sym c.if-self.true ∙ ap (λ (h : HeldLine). h.is_too_long) (c.self.view_is ∙ is) in
    let long : LONGEST_LINE < length line = grind (arith, nat_tests) in
    inr (long, refl)

pub returns : goal.returns
unfolding held
returns c =
    IfOk-weaker c.request_of.result _ _ (λ request asks line is.
    let flag : false ≡ nat_lt LONGEST_LINE (length line) = sym c.if-self.false ∙ ap (λ (h : HeldLine). h.is_too_long) (c.self.view_is ∙ is) in
    let short : length line ≤ LONGEST_LINE = grind (arith, nat_tests) in
    let bytes = c.deref.ensures.value ∙ ap (λ (h : HeldLine). h.bytes) (c.self.view_is ∙ is) ∙ take_all LONGEST_LINE line short in
    inl (short, subst (λ (l : List ℕ). AsksFor l request) bytes asks)) c.request_of.ensures
