use Rattle.std.proofs.Common.{◌≡◌, ℕ, List, Option, inl, rules, subst}
use Rattle.std.specs.Prelude.{option_copied}
use Rattle.signer_calls.specs.Asking.{query_in}
use Rattle.signer_calls.specs.Queries.{IsQuery}
use Rattle.signer_calls.proofs.asking.asked_of.Goals as goal

pub returns : goal.returns
returns c =
    let query = c.in-Some.query in
    let same : option_copied c.query.result ≡ query_in c.args.request.now = search rules in
    let named = subst (λ (t : Option (List ℕ)). IsQuery t query) same c.in-Some.ensures in
    inl (query, c.in_ok-call.call, named, c.in_ok-call.ensures, c.held_to.ensures)
