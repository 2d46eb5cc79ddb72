use Rattle.std.proofs.Common.{ℕ, List, sym, ap, ◌∙◌}
use Rattle.verdict_format.specs.Verdicts.{later_in}
use Rattle.culprit_search.proofs.Written.{later_view}
use Rattle.culprit_search.proofs.verdict.Verdict.later_view.Goals as goal

pub returns : goal.returns
returns c = sym (later_view _ _ c.self.invariant) ∙ ap (λ (b : List ℕ). (later_in b).view) c.self.view_is
