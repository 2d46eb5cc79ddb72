use Rattle.std.proofs.Common.{ap}
use Rattle.verdict_format.specs.Verdicts.{later_signature_in}
use Rattle.verdict_format.proofs.verdict.VerdictView.later.Goals as goal

pub returns-clause-signature : goal.returns-clause-signature
unfolding later_signature_in
returns-clause-signature c = ap later_signature_in c.self.view_is
