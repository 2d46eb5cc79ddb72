use Rattle.std.proofs.Common.{◌↔◌, ◌∙◌, List, sym, subst}
use Rattle.std.specs.List.{Contains}
use Rattle.certificates.specs.Votes.{IsAnswerOn}
use Rattle.certificates.specs.declared.vote.SignedVote.{SignedVote}
use Rattle.audit_evidence.specs.Logs.{LogNamesVote}
use Rattle.audit_evidence.specs.Sets.{InSome}
use Rattle.audit_evidence.proofs.Gatherings.{evidence_from, union_has_genesis, zip_length}
use Rattle.parallel_verify.proofs.Judgings.{answered}
use Rattle.parallel_verify.proofs.collecting.show_parts.Goals as goal

pub judge_parts-requires-after_bounds : goal.judge_parts-requires-after_bounds
judge_parts-requires-after_bounds g c = λ κs bounds.
    let committee = c.args.committee.now in
    let zip = answered committee g.N.BoardNaming.committee _ c.votes.result.now c.in_ok-answers.answers.items c.deref.result.now c.requires.board (c.votes.ensures.value ∙ sym c.votes-2.ensures.value) c.deref.ensures.value c.in_ok-answers.ensures in
    zip_length (IsAnswerOn committee) c.votes-2.result.now c.deref.result.now zip

pub of-requires-clause-genesis : goal.of-requires-clause-genesis
of-requires-clause-genesis g c =
    let some = c.requires.some in
    union_has_genesis c.args.committee.now some.0 c.in_ok-listing.listing (c.in_ok-listing.ensures.union some.0 some.1)

pub returns-clause-evidence : goal.returns-clause-evidence
returns-clause-evidence g c = λ logs parts.
    let committee = c.args.committee.now in
    let listing = c.in_ok-listing.listing in
    let zip = answered committee g.N.BoardNaming.committee listing.votes c.votes.result.now c.in_ok-answers.answers.items c.deref-2.result.now c.requires.board c.votes.ensures.value c.deref-2.ensures.value c.in_ok-answers.ensures in
    evidence_from committee logs listing c.deref-2.result.now c.in_ok-listing.reports.items c.in_ok-evidence.evidence (c.in_ok-listing.ensures.union logs parts) zip (c.in_ok-listing.ensures.told logs parts) c.in_ok-evidence.ensures

pub returns-clause-judged : goal.returns-clause-judged
returns-clause-judged g c = λ asked logs parts.
    let committee = c.args.committee.now in
    let votes = c.votes-2.result.now in
    let zip = answered committee g.N.BoardNaming.committee votes c.votes.result.now c.in_ok-answers.answers.items c.deref.result.now c.requires.board (c.votes.ensures.value ∙ sym c.votes-2.ensures.value) c.deref.ensures.value c.in_ok-answers.ensures in
    let named = subst (λ (vs : List SignedVote). (v : SignedVote) → Contains vs v ↔ InSome LogNamesVote logs v) (sym c.votes-2.ensures.value) (c.in_ok-listing.ensures.union logs parts).votes in
    c.in_ok-judged.ensures asked logs parts zip named
