use Rattle.parallel_verify.proofs.Judgings.{answer_at, bad_next}
use Rattle.parallel_verify.proofs.judging.bad_among.Goals as goal

pub loop-k-preserved : goal.loop-k-preserved
loop-k-preserved c = λ committee zip.
    let votes = c.args.votes.now in
    let k = c.loop-k.k in
    let x = c.index-votes-k.result in
    bad_next committee votes c.loop-k.bad c.put_bad.new.bad k x _ c.loop-k-test.true c.index-votes-k.is (answer_at committee votes c.args.answers.now k x _ c.loop-k-test.true c.index-votes-k.is zip) (c.loop-k.invariant committee zip) c.in_ok-put_bad.ensures
