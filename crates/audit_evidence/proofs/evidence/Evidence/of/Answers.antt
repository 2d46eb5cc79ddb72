use Rattle.std.proofs.Common.{◌≡◌, ◌∙◌, List, length, sym, ap, subst}
use Rattle.certificates.specs.declared.vote.SignedVote.{SignedVote}
use Rattle.audit_evidence.specs.Gathering.{Gathered, those}
use Rattle.audit_evidence.proofs.Gatherings.{gathered_from, is_evidence, zip_length}
use Rattle.audit_evidence.proofs.evidence.Evidence.of.Goals as goal

pub good_votes-requires : goal.good_votes-requires
good_votes-requires c =
    zip_length _ c.args.listing.votes c.args.answers.now c.requires.answers
    ∙ ap (λ (g : Gathered). length g.votes) (sym c.listing.view_is) ∙ ap (length {A = SignedVote}) (sym c.deref.ensures.value)

pub invariant_of-result : goal.invariant_of-result
invariant_of-result c =
    let inside = c.listing.inside in
    let answers = c.args.answers.now in
    is_evidence c.args.listing (gathered_from inside.committee inside.headers.items inside.votes.items) answers c.in_ok-votes.votes.items c.args.sources.items c.listing.view_is c.listing.invariant c.requires.genesis c.requires.answers
    (subst (λ (vs : List SignedVote). c.in_ok-votes.votes.items ≡ those vs answers) c.deref.ensures.value c.in_ok-votes.ensures)
