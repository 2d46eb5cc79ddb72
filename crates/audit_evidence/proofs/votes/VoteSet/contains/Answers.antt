use Rattle.std.proofs.Common.{◌≡◌, ◌↔◌, ◌∙◌, Bool, List, true, sym, subst}
use Rattle.std.specs.List.{Contains}
use Rattle.std.specs.BTreeSet.{BTreeSet, contains}
use Rattle.std.proofs.lemmas.Map.Views.{btree_set_contains_iff}
use Rattle.certificates.specs.declared.vote.SignedVote.{SignedVote}
use Rattle.certificates.specs.VoteOrder.{vote_cmp}
use Rattle.certificates.proofs.VoteOrder.{votes_total, votes_apart}
use Rattle.audit_evidence.proofs.votes.VoteSet.contains.Goals as goal

there : (set : BTreeSet SignedVote) (vs : List SignedVote) (v : SignedVote) (r : Bool) → set.keys ≡ vs → r ≡ contains vote_cmp set v → (r ≡ true) ↔ Contains vs v
there set vs v r is answer =
    let iff = btree_set_contains_iff votes_total votes_apart set v in (
      λ yes. subst (λ (ws : List SignedVote). Contains ws v) is (iff.0 (sym answer ∙ yes)),
      λ c. answer ∙ iff.1 (subst (λ (ws : List SignedVote). Contains ws v) (sym is) c),
    )

pub returns : goal.returns
returns c = there c.self.inside.votes c.args.self.now c.args.vote.now c.contains.result c.self.view_is c.contains.ensures
