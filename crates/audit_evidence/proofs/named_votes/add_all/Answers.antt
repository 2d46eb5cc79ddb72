use Rattle.std.proofs.Common.{◌≡◌, List, subst, arith}
use Rattle.std.proofs.lemmas.List.{take_all}
use Rattle.std.specs.List.{Contains}
use Rattle.certificates.specs.declared.vote.SignedVote.{SignedVote}
use Rattle.audit_evidence.specs.Gathering.{Gains}
use Rattle.audit_evidence.proofs.NamedVotes.{gained_next, gained_nothing}
use Rattle.audit_evidence.proofs.named_votes.add_all.Goals as goal

pub loop-vote-init : goal.loop-vote-init
loop-vote-init c = gained_nothing c.args.votes.now

pub loop-vote-preserved : goal.loop-vote-preserved
loop-vote-preserved c =
    let step = subst (λ (w : SignedVote). Gains c.loop-vote.votes c.insert.new.self (λ v. v ≡ w)) c.in_ok-again.ensures c.in_ok-insert.ensures.ok in
    gained_next c.args.votes.now c.loop-vote.votes c.insert.new.self c.args.more.now c.loop-vote.vote-index c.vote-item.result c.loop-vote-test.true c.vote-item.is c.loop-vote.invariant step

pub returns : goal.returns
returns c =
    subst (λ (xs : List SignedVote). Gains c.args.votes.now c.loop-vote.votes (Contains xs)) (take_all c.loop-vote.vote-index c.args.more.now (omega (arith, c.loop-vote-test.false))) c.loop-vote.invariant
