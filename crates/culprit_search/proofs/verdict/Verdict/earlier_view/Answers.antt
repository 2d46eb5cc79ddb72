use Rattle.std.proofs.Common.{ℕ, List, sym, ap, ◌∙◌}
use Rattle.verdict_format.specs.Verdicts.{earlier_in}
use Rattle.culprit_search.proofs.Written.{earlier_view}
use Rattle.culprit_search.proofs.verdict.Verdict.earlier_view.Goals as goal

pub returns : goal.returns
returns c = sym (earlier_view _ _ c.self.invariant) ∙ ap (λ (b : List ℕ). (earlier_in b).view) c.self.view_is
