use Rattle.std.proofs.Common.{ap, ◌∙◌}
use Rattle.blocks.specs.Headers.{Header}
use Rattle.culprit_search.proofs.Breaches.{other_view}
use Rattle.culprit_search.proofs.breach.header_at.Goals as goal

pub returns-else-header-view-clause-header : goal.returns-else-header-view-clause-header
returns-else-header-view-clause-header c =
    let found = c.in_ok-found.ensures.found in
    let read = ap (λ (h : Header). h.view) (c.behind-found.view_is ∙ c.header-2.ensures) in
    other_view c.args.evidence.now.headers c.args.id.now c.args.view c.in_ok-found.found c.in_ok-found.ensures.is_evidence.headers_rise found.0 found.1 (λ same. c.if-header-view.false (read ∙ same))
