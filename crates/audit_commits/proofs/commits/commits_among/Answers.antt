use Rattle.std.proofs.Common.{◌↔◌, List, sym, subst}
use Rattle.std.specs.List.{AllPairs, Contains}
use Rattle.std.proofs.lemmas.Bool.{iff_false}
use Rattle.blocks.specs.Headers.{Header, HasLowerId}
use Rattle.audit_commits.specs.Successors.{IsCommitAmong}
use Rattle.audit_commits.proofs.Choices.{chosen_over, chosen_more}
use Rattle.audit_commits.proofs.commits.commits_among.Goals as goal
use Rattle.audit_commits.proofs.commits.commits_among.Goals.{then-is_commit_among+in_ok-push, else-is_commit_among}

pub loop-header-preserved : goal.loop-header-preserved
loop-header-preserved c =
    let Is = IsCommitAmong c.args.chains.now in
    let hs = c.headers-header-items.result.now in
    let rising : AllPairs HasLowerId hs = subst (AllPairs HasLowerId) (sym c.headers-header-items.ensures.value) c.headers-header-items.ensures.known.rising in
    let i = c.loop-header.header-index in
    let x = c.header-item.result in
    let chosen = c.loop-header.chosen.items in
    let before = c.loop-header.invariant in
    elim c.if-is_commit_among.branch [
      | then-is_commit_among+in_ok-push w ↦
          rw w.chosen-is (rw w.in_ok-push.ensures.items (chosen_more Is hs chosen i x rising c.loop-header-test.true c.header-item.is before (c.is_commit_among.ensures.0 w.if-is_commit_among.true)))
      | else-is_commit_among w ↦ rw w.chosen-is (chosen_over Is hs chosen i x c.loop-header-test.true c.header-item.is before (iff_false c.is_commit_among.ensures w.if-is_commit_among.false))
    ]

pub is_commit_among-requires : goal.is_commit_among-requires
is_commit_among-requires c =
    λ h. subst (λ (hs : List Header). Contains c.in_ok-certified.certified h ↔ Contains hs h) c.headers.ensures.value (c.in_ok-certified.ensures h)
