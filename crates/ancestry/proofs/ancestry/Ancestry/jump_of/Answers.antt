use Rattle.std.proofs.Common.{arith}
use Rattle.ancestry.proofs.Steps.{leads_home, leads_to_parent, leads_on, parent_where_older}
use Rattle.ancestry.proofs.ancestry.Ancestry.jump_of.Goals as goal

pub returns-then-view_at-clause-jump : goal.returns-then-view_at-clause-jump
returns-then-view_at-clause-jump c = leads_home c.args.self.now c.args.at

pub returns-then-lengths-parent-clause-jump : goal.returns-then-lengths-parent-clause-jump
returns-then-lengths-parent-clause-jump c =
    let known = c.args.self.now in
    let parent = c.link-parent.result.parent in
    leads_to_parent known c.args.at parent (parent_where_older known c.args.at parent c.link-parent.ensures.link.parent (omega arith))

pub returns-clause-jump : goal.returns-clause-jump
returns-clause-jump c =
    let known = c.args.self.now in
    let parent = c.link-parent.result.parent in
    let middle = c.link-middle.result.jump in
    let first = leads_to_parent known c.args.at parent (parent_where_older known c.args.at parent c.link-parent.ensures.link.parent (omega arith)) in
    leads_on known c.args.at middle c.link.result.jump
    (leads_on known c.args.at parent middle first c.link-middle.ensures.link.jump) c.link.ensures.link.jump
