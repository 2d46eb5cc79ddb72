use Rattle.std.proofs.Common.{sym, ap, ◌∙◌}
use Rattle.verdict_format.specs.Verdicts.{replica_in}
use Rattle.culprit_search.proofs.Written.{accused}
use Rattle.culprit_search.proofs.verdict.Verdict.replica.Goals as goal

pub returns : goal.returns
returns c = sym (accused _ _ c.self.invariant) ∙ ap replica_in c.self.view_is
