use Rattle.std.proofs.Common.{arith}
use Rattle.watch_state.proofs.Shortest.{is_shortest}
use Rattle.watch_state.proofs.runs.shortest_run.Goals as goal

pub returns : goal.returns
returns c =
    let end = c.loop-i.auto.i-end in
    let test = c.loop-i-test.false in
    is_shortest c.args.parts.now c.loop-i.i c.loop-i.least c.loop-i.place c.loop-i.invariant (omega (arith, end, test))
