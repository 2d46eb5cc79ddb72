use Rattle.std.proofs.Common.{◌≡◌, subst}
use Rattle.certificates.specs.declared.vote.SignedVote.{SignedVote}
use Rattle.audit_evidence.specs.Gathering.{Grows, IsNone}
use Rattle.audit_evidence.proofs.Absorbing.{votes_more}
use Rattle.audit_evidence.proofs.gathering.Gathered.absorb_votes.Goals as goal

pub loop-vote-preserved : goal.loop-vote-preserved
loop-vote-preserved g c =
    let x = c.vote-item.result in
    let step = subst (λ (w : SignedVote). Grows c.loop-vote.self c.add_vote.new.self IsNone (λ v. v ≡ w)) c.in_ok-again.ensures c.in_ok-add_vote.ensures in
    votes_more c.args.self.now c.loop-vote.self c.add_vote.new.self c.args.votes.now c.loop-vote.vote-index x c.loop-vote-test.true c.vote-item.is c.loop-vote.invariant step
