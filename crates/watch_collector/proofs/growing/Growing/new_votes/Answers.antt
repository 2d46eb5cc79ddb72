use Rattle.std.proofs.Common.{◌≤◌, ◌+◌, ◌∙◌, List, Vec, Global, length, take, sym, subst, ap}
use Rattle.std.proofs.lemmas.Bool.{false≢true}
use Rattle.std.proofs.lemmas.List.{take_all}
use Rattle.certificates.specs.declared.vote.SignedVote.{SignedVote}
use Rattle.watch_collector.specs.Growing.{AreTheNewOf}
use Rattle.watch_collector.proofs.Judging.{new_first, new_more, old_more}
use Rattle.watch_collector.proofs.growing.Growing.new_votes.Goals.{then-not-has_vote+in_ok-again+in_ok-push, else-not-has_vote}
use Rattle.watch_collector.proofs.growing.Growing.new_votes.Goals as goal

pub loop-vote-init : goal.loop-vote-init
loop-vote-init c = new_first c.args.self.now.votes c.new-new.result.items c.new-new.ensures.items

pub loop-vote-preserved : goal.loop-vote-preserved
loop-vote-preserved c =
    let held = c.args.self.now.votes in
    let votes = c.args.votes.now in
    let i = c.loop-vote.vote-index in
    let x = c.vote-item.result in
    let new = c.loop-vote.new.items in
    elim c.if-not-has_vote.branch [
      | then-not-has_vote+in_ok-again+in_ok-push w ↦
          new_more held votes new i x c.loop-vote-test.true c.vote-item.is c.loop-vote.invariant c.if-not-has_vote.new.items w.in_ok-again.field-0 w.in_ok-again.ensures
          (ap (λ (vs : Vec SignedVote Global). vs.items) w.new-is ∙ w.in_ok-push.ensures.items) (λ there. false≢true (sym w.if-not-has_vote.true ∙ c.has_vote.ensures.1 there))
      | else-not-has_vote w ↦
          subst (λ (vs : Vec SignedVote Global). AreTheNewOf held (take (i + 1) votes) vs.items) (sym w.new-is)
          (old_more held votes new i x c.loop-vote-test.true c.vote-item.is c.loop-vote.invariant (c.has_vote.ensures.0 w.if-not-has_vote.false))
    ]

pub returns : goal.returns
returns c =
    let votes = c.args.votes.now in
    let l : length votes ≤ c.loop-vote.vote-index = c.loop-vote-test.false in
    subst (λ (vs : List SignedVote). AreTheNewOf c.args.self.now.votes vs c.loop-vote.new.items) (take_all c.loop-vote.vote-index votes l) c.loop-vote.invariant
