use Rattle.std.proofs.Common.{take}
use Rattle.audit_picture.specs.Choices.{AreSome, IsOther, names_in}
use Rattle.audit_picture.proofs.recent.other_blocks.Given as goal

abbrev pub invariant-loop-header : goal.invariant-loop-header
invariant-loop-header l = AreSome (IsOther l.evidence (names_in l.named)) (take l.header-index l.evidence.headers) l.others.items
