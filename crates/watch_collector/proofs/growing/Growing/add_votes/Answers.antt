use Rattle.std.proofs.Common.{◌<◌, ℕ, List, false, get_or, length, sym, subst, arith}
use Rattle.certificates.specs.declared.vote.SignedVote.{SignedVote}
use Rattle.certificates.specs.Votes.{IsAnswerOn}
use Rattle.audit_evidence.proofs.Absorbing.{votes_more}
use Rattle.audit_evidence.proofs.Gatherings.{zip_length}
use Rattle.watch_collector.proofs.Lists.{zip_at}
use Rattle.watch_collector.proofs.growing.Growing.add_votes.Goals as goal

pub bounds-answers-k : goal.bounds-answers-k
bounds-answers-k c =
    let below = c.loop-k-test.true in
    let same = zip_length (IsAnswerOn c.args.self.now.committee) c.args.votes.now c.args.answers.now c.requires in
    omega (arith, below, same)

pub add_vote-requires : goal.add_vote-requires
add_vote-requires c =
    let below = c.loop-k-test.true in
    let same = zip_length (IsAnswerOn c.args.self.now.committee) c.args.votes.now c.args.answers.now c.requires in
    let l : c.loop-k.k < length c.args.answers.now = omega (arith, below, same) in
    let x = c.index-votes-k.result in
    let b = get_or c.args.answers.now c.loop-k.k false in
    let answer = zip_at (IsAnswerOn c.args.self.now.committee) c.args.votes.now c.args.answers.now c.loop-k.k x false c.requires l in
    subst (λ (k : List ℕ). IsAnswerOn k x b) (sym c.loop-k.invariant.committee)
    (subst (λ (v : SignedVote). IsAnswerOn c.args.self.now.committee v b) (sym c.index-votes-k.is) answer)

pub loop-k-preserved : goal.loop-k-preserved
loop-k-preserved c =
    votes_more c.args.self.now c.loop-k.self c.add_vote.new.self c.args.votes.now c.loop-k.k c.index-votes-k.result c.loop-k-test.true c.index-votes-k.is c.loop-k.invariant c.in_ok-add_vote.ensures.ok
