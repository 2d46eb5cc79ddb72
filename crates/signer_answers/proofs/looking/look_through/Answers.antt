use Rattle.std.proofs.Common.{◌<◌, arith}
use Rattle.signer_answers.proofs.looking.look_through.Goals as goal

pub returns-clause-found : goal.returns-clause-found
returns-clause-found g c = λ k from below.
    let end = c.len-k-end.ensures in
    let over = c.loop-k-test.false in
    let under : k < c.loop-k.k = omega (arith, below, end, over) in
    c.loop-k.invariant k from under
