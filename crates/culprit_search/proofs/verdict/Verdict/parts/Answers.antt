use Rattle.std.proofs.Common.{ℕ, List, subst}
use Rattle.verdict_format.specs.VerdictText.{IsVerdictOf}
use Rattle.culprit_search.proofs.verdict.Verdict.parts.Goals as goal

pub returns : goal.returns
returns c = subst (λ (b : List ℕ). IsVerdictOf b c.self.inside.parts) c.self.view_is c.self.invariant
