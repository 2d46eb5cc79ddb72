use Rattle.std.proofs.Common.{◌≡◌, ◌≤◌, ◌+◌, arith, refl, min}
use Rattle.base_sha256.proofs.ChainLemmas.{steps_none, steps_more}
use Rattle.lmots.proofs.chains.chain_steps.Goals as goal

pub loop-j-init : goal.loop-j-init
loop-j-init c =
    let low : min c.args.from c.args.until ≤ c.args.from = omega arith in
    rw (c.new-chain.ensures, steps_none c.args.prefix.now c.args.from (min c.args.from c.args.until) c.args.start.now low) refl

pub loop-j-preserved : goal.loop-j-preserved
loop-j-preserved c =
    let here : min c.loop-j.j c.args.until ≡ c.loop-j.j = omega arith in
    let there : min (c.loop-j.j + 1) c.args.until ≡ c.loop-j.j + 1 = omega arith in
    let from : c.args.from ≤ c.loop-j.j = omega arith in
    rw (c.step.ensures, c.loop-j.invariant, here, there, steps_more c.args.prefix.now c.args.from c.loop-j.j c.args.start.now from) refl
