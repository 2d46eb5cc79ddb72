use Rattle.std.proofs.Common.{Bool, subst}
use Rattle.program_about.specs.Explaining.{IsSaid}
use Rattle.program_about.proofs.Sayings.{said_more}
use Rattle.program_about.proofs.explaining.put_rows.Goals as goal

pub loop-row-preserved-then-branch : goal.loop-row-preserved-then-branch
loop-row-preserved-then-branch c =
    let mid = c.loop-row.text.items in
    let new = c.put_row.new.text.items in
    said_more c.args.text.now.items mid new c.loop-row.is_known c.loop-row.invariant
    (subst (λ (b : Bool). IsSaid mid new b) c.if-branch.true c.in_ok-put_row.ensures)
