use Rattle.std.proofs.Common.{sym, ap, ◌∙◌}
use Rattle.verdict_format.specs.Verdicts.{verdict_kind_in}
use Rattle.verdict_format.proofs.VerdictLaws.{kind_again}
use Rattle.culprit_search.proofs.verdict.Verdict.rule.Goals as goal

pub returns : goal.returns
returns c = c.rule.ensures ∙ sym (kind_again _ _ c.self.invariant) ∙ ap verdict_kind_in c.self.view_is
