use Rattle.std.proofs.Common.{arith}
use Rattle.base_sockets.proofs.Places.{is_first}
use Rattle.base_sockets.proofs.giving_way.gives_way.Goals as goal

pub returns : goal.returns
returns c =
    let end = c.loop-i.auto.i-end in
    let test = c.loop-i-test.false in
    is_first c.args.nth c.args.all.now c.loop-i.i c.loop-i.least c.loop-i.place c.loop-i.invariant (omega (arith, end, test))
