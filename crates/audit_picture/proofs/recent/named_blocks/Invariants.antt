use Rattle.std.proofs.Common.{take}
use Rattle.audit_commits.specs.Chosen.{AreThose}
use Rattle.audit_picture.specs.Choices.{IsNamed, names_in}
use Rattle.audit_picture.proofs.recent.named_blocks.Given as goal

abbrev pub invariant-loop-header : goal.invariant-loop-header
invariant-loop-header l = AreThose (IsNamed (names_in l.named)) (take l.header-index l.evidence.headers) l.chosen.items
