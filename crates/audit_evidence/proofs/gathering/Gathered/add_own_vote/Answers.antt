use Rattle.std.proofs.Common.{◌≡◌, ◌∙◌, Some, sym, subst}
use Rattle.certificates.specs.declared.vote.SignedVote.{SignedVote}
use Rattle.log_format.specs.EntryText.{own_vote_of}
use Rattle.audit_evidence.proofs.Gatherings.{grown_as, own_vote, same_kind}
use Rattle.audit_evidence.proofs.gathering.Gathered.add_own_vote.Goals as goal

pub returns-in_ok-add_vote : goal.returns-in_ok-add_vote
returns-in_ok-add_vote g c =
    grown_as _ _ _ _ _ _ (same_kind _) (λ v. own_vote c.args.replica c.args.entry.now c.in_ok-vote.field-0 v (subst (λ (w : SignedVote). own_vote_of c.args.entry.now c.args.replica ≡ Some w) (sym c.in_ok-vote.ensures) (sym c.vote.ensures ∙ c.in-Some.is))) c.in_ok-add_vote.ensures
