use Rattle.std.proofs.Common.{take, string_bytes}
use Rattle.audit_picture.specs.DrawnBlocks.{AreBlocks}
use Rattle.audit_picture.specs.Series.{Adds}
use Rattle.audit_picture.proofs.blocks_drawn.put_each.Given as goal

abbrev pub invariant-loop-index : goal.invariant-loop-index
invariant-loop-index l =
    Adds (string_bytes l.initial.text) (string_bytes l.text) (AreBlocks l.scene.replicas l.scene.total l.scene.handover (take l.index l.blocks))
