use Rattle.std.proofs.Common.{subst}
use Rattle.blocks.specs.Headers.{Header}
use Rattle.culprit_search.specs.Searches.{NoneIsAt}
use Rattle.culprit_search.proofs.Breaches.{none_gives}
use Rattle.culprit_search.proofs.LockFacts.{no_lock}
use Rattle.culprit_search.proofs.locks.lock_view.Goals as goal

pub returns-in_err-parent-clause-lock : goal.returns-in_err-parent-clause-lock
returns-in_err-parent-clause-lock c =
    let e = c.args.evidence.now in
    let none = subst (λ (h : Header). NoneIsAt e.headers h.parent h.parent_view) c.header.ensures c.in_err-parent.ensures in
    none_gives _ _ _ c.from_residual-in_err-parent.ensures (no_lock e c.args.vote.now c.in_ok-block.block c.in_ok-block.ensures.is_evidence c.in_ok-block.ensures.block none)
