use Rattle.std.proofs.Common.{List, subst}
use Rattle.std.proofs.lemmas.Bool.{iff_false}
use Rattle.std.proofs.lemmas.List.{take_all}
use Rattle.certificates.specs.declared.vote.SignedVote.{SignedVote}
use Rattle.watch_desk.specs.Sources.{AreTheBad}
use Rattle.watch_desk.proofs.Once.{bad_more, bad_over}
use Rattle.watch_desk.proofs.votes.bad_votes.Goals.{then-is_bad+in_ok-again+in_ok-push, else-is_bad}
use Rattle.watch_desk.proofs.votes.bad_votes.Goals as goal

pub loop-vote-preserved : goal.loop-vote-preserved
loop-vote-preserved c =
    let committee = c.args.collector.now.gathered.committee in
    let votes = c.args.votes.now in
    let i = c.loop-vote.vote-index in
    let bad = c.loop-vote.bad.items in
    let x = c.vote-item.result in
    elim c.if-is_bad.branch [
      | then-is_bad+in_ok-again+in_ok-push w ↦
          rw (w.bad-is, w.in_ok-push.ensures.items, w.in_ok-again.ensures)
          (bad_more committee votes bad i x c.loop-vote-test.true c.vote-item.is c.loop-vote.invariant (c.is_bad.ensures.0 w.if-is_bad.true))
      | else-is_bad w ↦ rw w.bad-is (bad_over committee votes bad i x c.loop-vote-test.true c.vote-item.is c.loop-vote.invariant (iff_false c.is_bad.ensures w.if-is_bad.false))
    ]

pub returns : goal.returns
returns c =
    let votes = c.args.votes.now in
    subst (λ (vs : List SignedVote). AreTheBad c.args.collector.now.gathered.committee vs c.loop-vote.bad.items) (take_all c.loop-vote.vote-index votes c.loop-vote-test.false) c.loop-vote.invariant
