use Rattle.std.proofs.Common.{◌≡◌, ◌∙◌, ◌≤◌, ◌+◌, ◌++◌, ◌∷◌, [], ℕ, suc, List, false, if◌then◌else◌, length, take, get_or, sym, ap, subst, arith}
use Rattle.std.proofs.lemmas.List.{take_all}
use Rattle.certificates.specs.declared.vote.SignedVote.{SignedVote}
use Rattle.audit_evidence.specs.Gathering.{those}
use Rattle.audit_evidence.proofs.GoodVotes.{those_more}
use Rattle.audit_evidence.proofs.evidence.good_votes.Goals as goal

pub loop-k-preserved : goal.loop-k-preserved
loop-k-preserved c =
    let votes = c.args.votes.now in
    let answers = c.args.answers.now in
    let k = c.loop-k.k in
    let v = c.index-votes-k.result in
    let so_far = those (take k votes) (take k answers) in
    let one : SignedVote → List SignedVote = λ w. if get_or answers k false then w ∷ [] else [] in
    let more = those_more votes answers k v false c.loop-k-test.true c.requires in
    let next : suc k ≡ k + 1 = omega arith in
    subst (λ (n : ℕ). c.put_if.new.good.items ≡ those (take n votes) (take n answers)) next
    (c.in_ok-put_if.ensures ∙ ap (λ (vs : List SignedVote). vs ++ one v) c.loop-k.invariant ∙ ap (λ (w : SignedVote). so_far ++ one w) c.index-votes-k.is ∙ sym more)

pub returns : goal.returns
returns c =
    let votes = c.args.votes.now in
    let answers = c.args.answers.now in
    let k = c.loop-k.k in
    let l : length votes ≤ k = c.loop-k-test.false in
    c.loop-k.invariant ∙ ap (λ (vs : List SignedVote). those vs (take k answers)) (take_all k votes l) ∙ ap (those votes) (take_all k answers (omega (arith, l, c.requires)))
