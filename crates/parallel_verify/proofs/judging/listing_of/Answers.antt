use Rattle.std.proofs.Common.{◌≡◌, ◌↔◌, ◌∙◌, List, ap, subst}
use Rattle.std.specs.List.{Contains}
use Rattle.certificates.specs.declared.vote.SignedVote.{SignedVote}
use Rattle.audit_evidence.specs.NamedVotes.{all_votes}
use Rattle.parallel_verify.specs.Parts.{Part}
use Rattle.parallel_verify.proofs.Judgings.{listed_votes}
use Rattle.parallel_verify.proofs.judging.listing_of.Goals as goal

pub returns-in-Ok : goal.returns-in-Ok
returns-in-Ok g c =
    let part = c.args.part.now in
    let votes : c.deref-2.result.now ≡ part.votes = c.deref-2.ensures.value ∙ ap (λ (p : Part). p.votes) c.part.view_is in
    let certificates : c.deref-3.result.now ≡ part.certificates = c.deref-3.ensures.value ∙ ap (λ (p : Part). p.certificates) c.part.view_is in
    let of = listed_votes _ _ _ _ _ c.in_ok-gathered.ensures.votes c.in-Ok.ensures.ok c.in_ok-in_order-in-Ok.ensures in
    subst (λ (cs : List (List SignedVote)). (v : SignedVote) → Contains c.in_ok-in_order-in-Ok.field-0.votes v ↔ Contains (all_votes part.votes cs) v) certificates
    (subst (λ (vs : List SignedVote). (v : SignedVote) → Contains c.in_ok-in_order-in-Ok.field-0.votes v ↔ Contains (all_votes vs c.deref-3.result.now) v) votes of)
