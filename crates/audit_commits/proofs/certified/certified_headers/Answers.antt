use Rattle.std.proofs.Common.{◌≡◌, ◌<◌, List, length, get_or, subst}
use Rattle.std.proofs.lemmas.Bool.{iff_false}
use Rattle.blocks.specs.Headers.{Header}
use Rattle.blocks.specs.Weights.{committee_of}
use Rattle.certificates.specs.declared.vote.SignedVote.{SignedVote}
use Rattle.audit_commits.specs.Casts.{AreCasts}
use Rattle.audit_commits.specs.Commits.{IsCertified}
use Rattle.audit_commits.proofs.Choices.{chosen_over, chosen_more}
use Rattle.audit_commits.proofs.certified.certified_headers.Goals as goal
use Rattle.audit_commits.proofs.certified.certified_headers.Goals.{then-is_certified+in_ok-push, else-is_certified}

pub loop-header-preserved : goal.loop-header-preserved
loop-header-preserved c =
    let e = c.args.evidence.now in
    let Is = IsCertified (committee_of e.committee) e in
    let i = c.loop-header.header-index in
    let x = c.header-item.result in
    let chosen = c.loop-header.chosen.items in
    let before = c.loop-header.invariant in
    let same = c.headers-header-items.ensures.value in
    let there : i < length e.headers = subst (λ (hs : List Header). i < length hs) same c.loop-header-test.true in
    let is : x ≡ get_or e.headers i x = subst (λ (hs : List Header). x ≡ get_or hs i x) same c.header-item.is in
    elim c.if-is_certified.branch [
      | then-is_certified+in_ok-push w ↦
          rw w.chosen-is (rw w.in_ok-push.ensures.items (chosen_more Is e.headers chosen i x c.headers-header-items.ensures.is_evidence.headers_rise there is before (c.is_certified.ensures.0 w.if-is_certified.true)))
      | else-is_certified w ↦ rw w.chosen-is (chosen_over Is e.headers chosen i x there is before (iff_false c.is_certified.ensures w.if-is_certified.false))
    ]

pub is_certified-requires : goal.is_certified-requires
is_certified-requires c = subst (λ (vs : List SignedVote). AreCasts vs c.in_ok-casts.casts) c.votes.ensures.value c.in_ok-casts.ensures
