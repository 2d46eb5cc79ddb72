use Rattle.std.proofs.Common.{◌≡◌, length, arith, take, refl}
use Rattle.lmots.proofs.BlockLemmas.{valued}
use Rattle.lmots.proofs.chains.Chain.new.Goals as goal

pub returns : goal.returns
returns c =
    let long : length c.put.new.bytes ≡ 55 = omega arith in
    let kept : length c.put-2.new.bytes ≡ length c.put.new.bytes = omega arith in
    let written = valued c.put.new.bytes c.put-2.new.bytes c.args.value.now long kept c.told-value c.put-2.ensures.written in
    let first : take 22 c.put.new.bytes ≡ c.args.prefix.now = rw c.told-prefix at c.put.ensures.written in
    rw (written.0, written.1, first) refl
