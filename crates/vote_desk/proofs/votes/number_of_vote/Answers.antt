use Rattle.std.proofs.Common.{sym, ◌∙◌, arith}
use Rattle.std.proofs.lemmas.Bool.{true≢false}
use Rattle.vote_desk.proofs.FoundVotes.{looked_at, none_at_all, not_here}
use Rattle.vote_desk.proofs.votes.number_of_vote.Goals as goal

pub loop-k-preserved : goal.loop-k-preserved
loop-k-preserved c =
    looked_at c.args.view c.args.steps.now c.loop-k.k c.loop-k.invariant
    (not_here c.args.view c.args.steps.now c.loop-k.k c.index-steps-k.result c.index-steps-k.is (λ v. true≢false (sym (c.is_vote_of_view.ensures.1 v) ∙ c.if-is_vote_of_view.false)))

pub returns : goal.returns
returns c = none_at_all c.args.view c.args.steps.now c.loop-k.k (omega (arith, c.loop-k-test.false)) c.loop-k.invariant
