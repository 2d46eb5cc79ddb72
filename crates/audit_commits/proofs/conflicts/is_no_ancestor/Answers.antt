use Rattle.std.proofs.Common.{refl, sym}
use Rattle.audit_commits.proofs.ConflictFacts.{by_answer}
use Rattle.audit_commits.proofs.conflicts.is_no_ancestor.Goals as goal

pub returns-in-Some : goal.returns-in-Some
returns-in-Some c =
    by_answer c.args.chains.now c.id.result.now c.id-2.result.now c.args.a.now c.args.b.now c.in-Some.is' c.requires.known c.requires.first c.requires.second (sym c.id.ensures) (sym c.id-2.ensures)
    (c.in-Some.ensures.linked.0 refl) c.in-Some.ensures.ancestor
