use Rattle.std.proofs.Common.{sym}
use Rattle.std.proofs.lemmas.Bool.{false≢true}
use Rattle.audit_commits.proofs.OneChain.{above_by_ids, both_linked}
use Rattle.audit_commits.proofs.conflicts.is_ancestor.Goals as goal

pub returns-in-Some : goal.returns-in-Some
returns-in-Some c =
    above_by_ids c.args.chains.now c.id.result.now c.id-2.result.now c.args.a.now c.args.b.now c.in-Some.is' c.requires.known c.requires.first c.requires.second (sym c.id.ensures) (sym c.id-2.ensures)
    c.in-Some.ensures.ancestor

pub returns-in-None : goal.returns-in-None
returns-in-None c = (
  λ t. absurd (false≢true t),
  λ above. c.in-None.ensures.linked.1 (both_linked c.args.chains.now c.id.result.now c.id-2.result.now c.args.a.now c.args.b.now (sym c.id.ensures) (sym c.id-2.ensures) above),
)
