use Rattle.std.proofs.Common.{◌≡◌, take}
use Rattle.base_text.specs.Printed.{printed}
use Rattle.base_text.proofs.path.plain_len.Given as goal

abbrev pub invariant-loop-i : goal.invariant-loop-i
invariant-loop-i l = printed (take l.i l.text) ≡ take l.i l.text
