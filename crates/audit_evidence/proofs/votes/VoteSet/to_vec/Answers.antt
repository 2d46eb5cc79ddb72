use Rattle.std.proofs.Common.{◌∙◌, subst}
use Rattle.std.specs.List.{AllPairs}
use Rattle.certificates.specs.VoteOrder.{IsLowerVote, vote_cmp}
use Rattle.audit_evidence.proofs.Lists.{pairs_from_sorted}
use Rattle.audit_evidence.proofs.Taking.{none_taken, one_taken, all_taken}
use Rattle.audit_evidence.proofs.votes.VoteSet.to_vec.Goals as goal

pub loop-vote-init : goal.loop-vote-init
loop-vote-init c = none_taken c.new-votes.result.items c.args.self.now c.into_iter-vote-iterator.result c.new-votes.ensures.items (c.into_iter-vote-iterator.ensures.into_iter_gives ∙ c.iter-vote-items.ensures.rest ∙ c.self.view_is)

pub loop-vote-preserved : goal.loop-vote-preserved
loop-vote-preserved c = one_taken c.loop-vote.votes.items c.push.new.self.items c.args.self.now c.loop-vote.vote-iterator c.next.new.self c.in-Some.vote.now c.in_ok-again.field-0 c.in_ok-push.ensures.items c.in_ok-again.ensures c.in-Some.ensures.steps c.loop-vote.invariant

pub returns-clause-votes : goal.returns-clause-votes
returns-clause-votes c = all_taken c.loop-vote.votes.items c.args.self.now c.loop-vote.vote-iterator c.in-None.ensures.steps.0 c.loop-vote.invariant

pub returns-clause-rising : goal.returns-clause-rising
returns-clause-rising c = subst (AllPairs IsLowerVote) c.self.view_is (pairs_from_sorted vote_cmp c.self.inside.votes.keys c.iter-vote-items.ensures.ordered)
