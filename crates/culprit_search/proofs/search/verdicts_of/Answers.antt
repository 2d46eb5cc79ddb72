use Rattle.std.proofs.Common.{List, ℕ, ap, ◌∙◌, arith}
use Rattle.blocks.specs.Committees.{n_of}
use Rattle.culprit_search.proofs.NamedPairs.{all_culprits, all_verdicts, one_less, one_more}
use Rattle.culprit_search.proofs.search.verdicts_of.Goals as goal
use Rattle.culprit_search.proofs.search.verdicts_of.Goals.{in-Some+in_ok-verdict_on+in_ok-push, in_default}

pub loop-replica-preserved : goal.loop-replica-preserved
loop-replica-preserved c =
    let e = c.args.evidence.now in
    let n = c.loop-replica.replica in
    elim c.match-named_pair.branch [
      | in-Some+in_ok-verdict_on+in_ok-push w ↦
          rw w.verdicts-is (rw w.in_ok-push.ensures.items (one_more e n c.loop-replica.verdicts.items w.in_ok-verdict_on.field-0 c.loop-replica.invariant w.in_ok-verdict_on.ensures.accuses w.in_ok-verdict_on.ensures.accepted))
      | in_default w ↦ rw w.verdicts-is (one_less e n c.loop-replica.verdicts.items c.loop-replica.invariant w.in_default.ensures)
    ]

pub returns-clause-verdicts : goal.returns-clause-verdicts
returns-clause-verdicts c =
    let size = c.n-replica-end.ensures.value ∙ ap (λ (bytes : List ℕ). n_of bytes) c.committee.ensures.value in
    all_verdicts c.args.evidence.now c.loop-replica.replica c.loop-replica.verdicts.items c.committee.ensures.is_evidence (omega (arith, size)) c.loop-replica.invariant

pub returns-clause-culprits : goal.returns-clause-culprits
returns-clause-culprits c =
    let size = c.n-replica-end.ensures.value ∙ ap (λ (bytes : List ℕ). n_of bytes) c.committee.ensures.value in
    all_culprits c.args.evidence.now c.loop-replica.verdicts.items
    (all_verdicts c.args.evidence.now c.loop-replica.replica c.loop-replica.verdicts.items c.committee.ensures.is_evidence (omega (arith, size)) c.loop-replica.invariant)
