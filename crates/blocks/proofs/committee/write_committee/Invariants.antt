use Rattle.std.proofs.Common.{◌≡◌, ◌++◌, length, take}
use Rattle.std.specs.Prelude.{codes}
use Rattle.std.specs.List.{concat}
use Rattle.byteorder.specs.Endian.{big_bytes}
use Rattle.blocks.proofs.committee.write_committee.Given as goal

abbrev pub invariant-loop-key : goal.invariant-loop-key
invariant-loop-key l = l.text.items ≡ codes "HSC1" ++ (big_bytes 2 l.f ++ (big_bytes 2 (length l.keys) ++ concat (take l.key-index l.keys)))
