use Rattle.std.proofs.Common.{List, ℕ, Option, Bor, subst, sym}
use Rattle.std.specs.Prelude.{MatchOption, option_copied}
use Rattle.signer_calls.specs.Queries.{AreThreeMore, IsQuery, no_query}
use Rattle.signer_calls.specs.declared.query.Query.{Query}
use Rattle.signer_calls.proofs.query.named_in.Goals as goal

pub returns : goal.returns
returns c =
    let r = c.three_in.result in
    let text = c.as_bytes.result.now in
    subst (λ (q : Option (Bor (List ℕ))). MatchOption r ((p : Query) → IsQuery (option_copied q) p → ⊥) (IsQuery (option_copied q))) (sym c.in-Some.is)
    (subst (λ (t : List ℕ). MatchOption r ((p : Query) → AreThreeMore no_query t p → ⊥) (AreThreeMore no_query t)) c.as_bytes.ensures.value
    (subst (λ (b : Query). MatchOption r ((p : Query) → AreThreeMore b text p → ⊥) (AreThreeMore b text)) c.new-2.ensures c.three_in.ensures))
