use Rattle.std.proofs.Common.{◌≡◌, length}
use Rattle.lmots.specs.Signatures.{shown_value}
use Rattle.lmots.specs.Walks.{AreFirst}
use Rattle.lmots.proofs.signatures.shown_values.Given as goal

abbrev pub invariant-loop-i : goal.invariant-loop-i
invariant-loop-i l = (length l.values ≡ 34) × AreFirst l.i (shown_value l.signature) l.values
