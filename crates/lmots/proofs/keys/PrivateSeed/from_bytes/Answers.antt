use Rattle.std.proofs.Common.{◌≡◌, length, arith, sym}
use Rattle.base_wire.proofs.Numbers.{cut, cut_last}
use Rattle.lmots.proofs.keys.PrivateSeed.from_bytes.Goals as goal

pub returns-clause-spelled : goal.returns-clause-spelled
returns-clause-spelled c =
    let bytes = c.args.bytes.now in
    let long : length bytes ≡ 48 = omega arith in
    rw (c.array_at.ensures, c.array_at-2.ensures, ← cut_last bytes 16 32 long) (sym (cut bytes 0 16))
