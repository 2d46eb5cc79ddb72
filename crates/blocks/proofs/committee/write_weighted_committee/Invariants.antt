use Rattle.std.proofs.Common.{◌≡◌, ◌++◌, length, take}
use Rattle.std.specs.Prelude.{codes}
use Rattle.std.specs.List.{flat_map}
use Rattle.byteorder.specs.Endian.{big_bytes}
use Rattle.blocks.specs.Committees.{member_text}
use Rattle.blocks.proofs.committee.write_weighted_committee.Given as goal

abbrev pub invariant-loop-member : goal.invariant-loop-member
invariant-loop-member l =
    l.text.items ≡ codes "HSC2" ++ (big_bytes 2 0 ++ (big_bytes 2 (length l.members) ++ flat_map member_text (take l.member-index l.members)))
