use Rattle.std.proofs.Common.{List, refl, subst}
use Rattle.std.specs.List.{Contains}
use Rattle.std.proofs.lemmas.Bool.{false≢true}
use Rattle.certificates.specs.declared.vote.SignedVote.{SignedVote}
use Rattle.watch_desk.proofs.Once.{each_more, each_over}
use Rattle.watch_desk.proofs.votes.add_each.Goals.{then-not-has_vote+in_ok-again+in_ok-push, else-not-has_vote}
use Rattle.watch_desk.proofs.votes.add_each.Goals as goal

pub loop-vote-preserved : goal.loop-vote-preserved
loop-vote-preserved c =
    let old = c.args.list.now.items in
    let votes = c.args.votes.now in
    let i = c.loop-vote.vote-index in
    let mid = c.loop-vote.list.items in
    let x = c.vote-item.result in
    elim c.if-not-has_vote.branch [
      | then-not-has_vote+in_ok-again+in_ok-push w ↦
          rw (w.list-is, w.in_ok-push.ensures.items, w.in_ok-again.ensures)
          (each_more old mid votes i x c.loop-vote-test.true c.vote-item.is c.loop-vote.invariant
          (subst (λ (vs : List SignedVote). Contains vs x → ⊥) c.deref.ensures.value (λ there. false≢true (w.if-not-has_vote.ensures.1 there))))
      | else-not-has_vote w ↦
          rw w.list-is
          (each_over old mid votes i x c.loop-vote-test.true c.vote-item.is c.loop-vote.invariant
          (subst (λ (vs : List SignedVote). Contains vs x) c.deref.ensures.value (w.if-not-has_vote.ensures.0 refl)))
    ]
