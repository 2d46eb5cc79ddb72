use Rattle.std.proofs.Common.{rules}
use Rattle.verdict_format.specs.VerdictText.{IsVerdictOf}
use Rattle.culprit_search.specs.Verdicts.{parts_of}
use Rattle.culprit_search.proofs.Written.{proof_of}
use Rattle.culprit_search.proofs.verdict.verdict_on.Goals as goal

pub returns-clause-accepted : goal.returns-clause-accepted
returns-clause-accepted c =
    let e = c.args.evidence.now in
    let r = c.args.replica in
    let o = c.args.offence.now in
    let bytes = c.in_ok-bytes.bytes.items in
    let spells : IsVerdictOf bytes (parts_of e r o.earlier o.later o.shown) = search rules in
    proof_of e r o.earlier o.later o.shown bytes c.committee.ensures.is_evidence c.requires.named c.requires.shown spells
