use Rattle.std.proofs.Common.{ap, ◌∙◌, sym}
use Rattle.blocks.specs.Headers.{Header}
use Rattle.culprit_search.proofs.Screens.{on_parent_below}
use Rattle.culprit_search.proofs.screen.is_on_parent_below.Goals as goal

pub returns-in-Some : goal.returns-in-Some
returns-in-Some c =
    on_parent_below c.args.evidence.now c.args.w.now c.args.view _ c.in-Some.block c.in-Some.ensures.is_evidence c.in-Some.ensures.block
    (sym (ap (λ (h : Header). h.parent_view) (c.behind-block.view_is ∙ c.header.ensures)))
