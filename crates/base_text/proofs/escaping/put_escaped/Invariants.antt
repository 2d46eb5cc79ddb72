use Rattle.std.proofs.Common.{◌≡◌, ◌++◌, take}
use Rattle.base_text.specs.Escapes.{escaped}
use Rattle.base_text.proofs.escaping.put_escaped.Given as goal

abbrev pub invariant-loop-byte : goal.invariant-loop-byte
invariant-loop-byte l = l.text.items ≡ l.fn.text.items ++ escaped l.fn.inside (take l.byte-index l.piece)
