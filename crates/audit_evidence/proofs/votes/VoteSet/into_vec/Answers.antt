use Rattle.std.proofs.Common.{◌≡◌, List, subst}
use Rattle.std.specs.Prelude.{IfOk}
use Rattle.std.specs.List.{AllPairs}
use Rattle.std.proofs.lemmas.Iterator.{items_from_collect}
use Rattle.std.specs.Map.Iter.{TakesFirst}
use Rattle.certificates.specs.declared.vote.SignedVote.{SignedVote}
use Rattle.certificates.specs.VoteOrder.{IsLowerVote, vote_cmp}
use Rattle.audit_evidence.proofs.Lists.{itself, given_all, pairs_from_sorted}
use Rattle.audit_evidence.proofs.votes.VoteSet.into_vec.Goals as goal

pub returns-clause-votes : goal.returns-clause-votes
returns-clause-votes c =
    subst (λ (vs : List SignedVote). IfOk c.collect.result (λ w. w.items ≡ vs)) c.self.view_is
    (items_from_collect {steps = TakesFirst itself} {s = c.into_iter.result} c.collect.result c.collect.ensures.ran (given_all c.self.inside.votes.keys c.into_iter.result c.into_iter.ensures.into_iter_gives.0))

pub returns-clause-rising : goal.returns-clause-rising
returns-clause-rising c = subst (AllPairs IsLowerVote) c.self.view_is (pairs_from_sorted vote_cmp c.self.inside.votes.keys c.into_iter.ensures.into_iter_gives.4)
