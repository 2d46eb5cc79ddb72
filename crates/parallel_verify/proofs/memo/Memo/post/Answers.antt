use Rattle.std.proofs.Common.{◌≡◌, List, Bool, Option, None, Some, rules, sym, subst}
use Rattle.std.specs.Prelude.{IfOk}
use Rattle.std.specs.BTreeMap.{get, Updates}
use Rattle.certificates.specs.declared.vote.SignedVote.{SignedVote}
use Rattle.certificates.specs.VoteOrder.{vote_cmp}
use Rattle.parallel_verify.specs.Answers.{answer_in}
use Rattle.parallel_verify.proofs.Remembered.{answers_stay, still_are}
use Rattle.certificates.proofs.VoteOrder.{votes_apart}
use Rattle.parallel_verify.proofs.memo.Memo.post.Goals as goal

pub returns-in-Some-clause-same : goal.returns-in-Some-clause-same
returns-in-Some-clause-same g c =
    subst (λ (v : SignedVote). IfOk c.again.result (λ w. w ≡ v)) (sym (votes_apart c.args.vote.now c.in-Some.held.now c.in-Some.ensures.same_key)) c.again.ensures

pub invariant_of-self-2 : goal.invariant_of-self-2
invariant_of-self-2 g c =
    let none : get vote_cmp c.self.inside.posted c.args.vote.now ≡ None = search rules in
    let updates : Updates vote_cmp c.self.inside.posted c.insert.new.self c.args.vote.now (Some None) =
    subst (λ (v : SignedVote). Updates vote_cmp c.self.inside.posted c.insert.new.self v (Some None)) c.in_ok-again.ensures c.in_ok-insert.ensures.updates in
    still_are g.N.BoardNaming.committee c.self.inside.posted.entries c.insert.new.self.entries (answers_stay c.self.inside.posted c.insert.new.self c.args.vote.now none updates) c.self.invariant

pub returns-clause-answers : goal.returns-clause-answers
returns-clause-answers g c v =
    let none : get vote_cmp c.self.inside.posted c.args.vote.now ≡ None = search rules in
    let updates : Updates vote_cmp c.self.inside.posted c.insert.new.self c.args.vote.now (Some None) =
    subst (λ (v : SignedVote). Updates vote_cmp c.self.inside.posted c.insert.new.self v (Some None)) c.in_ok-again.ensures c.in_ok-insert.ensures.updates in
    subst (λ (posted : List (SignedVote × Option Bool)). answer_in c.insert.new.self.entries v ≡ answer_in posted v) c.self.view_is
    (answers_stay c.self.inside.posted c.insert.new.self c.args.vote.now none updates v)
