use Rattle.std.proofs.Common.{ap}
use Rattle.verdict_format.specs.Verdicts.{earlier_signature_in}
use Rattle.verdict_format.proofs.verdict.VerdictView.earlier.Goals as goal

pub returns-clause-signature : goal.returns-clause-signature
unfolding earlier_signature_in
returns-clause-signature c = ap earlier_signature_in c.self.view_is
