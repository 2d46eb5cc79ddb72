use Rattle.std.proofs.lemmas.Bool.{iff_false}
use Rattle.replica_core.proofs.Marked.{begins, ends, goes_on_marked, goes_on_unmarked}
use Rattle.replica_core.proofs.replica.Core.first_from.Goals as goal
use Rattle.replica_core.proofs.replica.Core.first_from.Goals.{then-is_marked, else-is_marked}

pub loop-parent-init : goal.loop-parent-init
loop-parent-init c = record { walked = begins c.args.self.now c.args.mark.now c.args.tip.now c.genesis-tree.ensures.tree c.requires }

pub loop-parent-preserved : goal.loop-parent-preserved
loop-parent-preserved c =
    let core = c.args.self.now in
    let at = c.loop-parent.at in
    let parent = c.in-Some.parent.now in
    let walked = c.loop-parent.invariant.walked in
    elim c.if-is_marked.branch [
      | then-is_marked w ↦ rw w.first-is (record { walked = goes_on_marked core c.args.mark.now c.args.tip.now at parent c.loop-parent.first c.in-Some.ensures.tree c.in-Some.ensures.parent (c.is_marked.ensures.0 w.if-is_marked.true) walked })
      | else-is_marked w ↦ rw w.first-is (record { walked = goes_on_unmarked core c.args.mark.now c.args.tip.now at parent c.loop-parent.first c.in-Some.ensures.tree c.in-Some.ensures.parent (iff_false c.is_marked.ensures w.if-is_marked.false) walked })
    ]

pub returns : goal.returns
returns c = ends c.args.self.now c.args.mark.now c.args.tip.now c.loop-parent.at c.loop-parent.first c.genesis-tree.ensures.tree c.in_default.ensures.parent c.loop-parent.invariant.walked
