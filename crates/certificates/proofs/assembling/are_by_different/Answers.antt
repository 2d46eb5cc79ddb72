use Rattle.std.proofs.Common.{◌≡◌, ◌<◌, [], true, IsTrue, length, get_or, take, subst, rules, arith}
use Rattle.std.proofs.lemmas.List.{get_or_default, take_all}
use Rattle.certificates.specs.declared.vote.SignedVote.{SignedVote}
use Rattle.certificates.specs.Assembling.{AreByDifferent}
use Rattle.certificates.proofs.Assembled.{different_push, others_before}
use Rattle.certificates.proofs.assembling.are_by_different.Goals as goal

abbrev no_vote : SignedVote
no_vote = record { replica = 0; view = 0; id = []; key = 0; signature = [] }

pub returns-then-not-are_by_others : goal.returns-then-not-are_by_others
returns-then-not-are_by_others c =
    let votes = c.args.votes.now in
    let k = c.loop-k.k in
    let below : k < length votes = c.loop-k-test.true in
    let v = get_or votes k no_vote in
    (λ t. absurd cc, λ different. subst IsTrue c.if-not-are_by_others.true (c.are_by_others.ensures.1 (others_before votes k v below (get_or_default votes k no_vote v below) different)))

pub loop-k-preserved : goal.loop-k-preserved
loop-k-preserved c =
    let votes = c.args.votes.now in
    let k = c.loop-k.k in
    let below : k < length votes = c.loop-k-test.true in
    let v = get_or votes k no_vote in
    let yes : c.are_by_others.result ≡ true = search rules in
    different_push votes k v below (get_or_default votes k no_vote v below) c.loop-k.invariant (c.are_by_others.ensures.0 (search rules))

pub returns : goal.returns
returns c =
    let votes = c.args.votes.now in
    let whole : take c.loop-k.k votes ≡ votes = take_all c.loop-k.k votes (omega arith) in
    (λ _. subst AreByDifferent whole c.loop-k.invariant, λ _. search rules)
