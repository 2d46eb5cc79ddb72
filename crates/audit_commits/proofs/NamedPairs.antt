-- A replica has one pair that is named.
use Rattle.std.proofs.Common.{◌≡◌, sym, ap, subst, inl, inr}
use Rattle.std.specs.Ordering.{ordering_reverse}
use Rattle.certificates.specs.declared.vote.SignedVote.{SignedVote}
use Rattle.certificates.proofs.VoteOrder.{votes_total}
use Rattle.audit_commits.specs.Culprits.{IsOffence, IsVoteAtMost}
use Rattle.audit_commits.specs.AccountabilityLaws.{ACulpritHasOneNamedPair}

-- neither is above the other
at_most_both : (v w : SignedVote) → IsVoteAtMost v w → IsVoteAtMost w v → v ≡ w
at_most_both v w (inl same) b = same
at_most_both v w (inr low) (inl same) = sym same
at_most_both v w (inr low) (inr high) =
    let turned = votes_total.antisymm w v in
    let above = ap ordering_reverse low in
    absurd cc

pub one_pair : ACulpritHasOneNamedPair
one_pair e r v w x y first other =
    let later : w ≡ y = at_most_both w y (first.least_later x y other.offence) (other.least_later v w first.offence) in
    let moved : IsOffence e r x w = subst (λ (z : SignedVote). IsOffence e r x z) (sym later) other.offence in
    let back : IsOffence e r v y = subst (λ (z : SignedVote). IsOffence e r v z) later first.offence in
    (at_most_both v x (first.least_earlier x moved) (other.least_earlier v back), later)
