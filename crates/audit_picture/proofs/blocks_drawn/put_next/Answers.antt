use Rattle.audit_picture.proofs.blocks_drawn.put_next.Goals as goal

pub returns-then-is_after : goal.returns-then-is_after
returns-then-is_after c = rw c.if-is_after.true c.put_after.ensures
