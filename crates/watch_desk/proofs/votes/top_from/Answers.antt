use Rattle.std.proofs.Common.{◌∙◌, ap, sym}
use Rattle.certificates.specs.declared.vote.SignedVote.{SignedVote}
use Rattle.watch_desk.specs.Sources.{larger}
use Rattle.watch_desk.proofs.Once.{top_more}
use Rattle.watch_desk.proofs.votes.top_from.Goals as goal

pub loop-vote-preserved : goal.loop-vote-preserved
loop-vote-preserved c =
    let x = c.vote-item.result in
    let more = top_more c.args.from c.args.votes.now c.loop-vote.vote-index x c.loop-vote-test.true c.vote-item.is in
    c.larger-top.ensures ∙ ap (λ (v : SignedVote). larger c.loop-vote.top v.view) c.get.ensures ∙ ap (λ n. larger n x.view) c.loop-vote.invariant ∙ sym more
