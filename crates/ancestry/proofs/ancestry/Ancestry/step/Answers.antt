use Rattle.std.proofs.Common.{arith}
use Rattle.ancestry.proofs.Steps.{step_by_jump, step_by_parent, end_at_view, end_without_parent}
use Rattle.ancestry.proofs.ancestry.Ancestry.step.Goals as goal

pub returns-then-far-here : goal.returns-then-far-here
returns-then-far-here c =
    let link = c.link-link.ensures.link in
    step_by_jump c.args.self.now c.args.at c.args.view c.link-link.result.jump c.link-link.ensures.known link.jump_in link.jump (omega arith) (omega arith)

pub returns-then-view_at-here : goal.returns-then-view_at-here
returns-then-view_at-here c =
    let link = c.link-link.ensures.link in
    step_by_parent c.args.self.now c.args.at c.args.view c.link-link.result.parent c.link-link.ensures.known link.parent_in link.parent (omega arith) (omega arith)

pub returns-else-view_at-here : goal.returns-else-view_at-here
returns-else-view_at-here c =
    end_without_parent c.args.self.now c.args.at c.args.view c.link-link.result.parent c.link-link.ensures.link.parent (omega arith)

pub returns-else-view-here : goal.returns-else-view-here
returns-else-view-here c = end_at_view c.args.self.now c.args.at c.args.view (omega arith)
