use Rattle.std.proofs.Common.{arith}
use Rattle.replica_core.proofs.Known.{firsts_more, firsts_all, length_adds_entry}
use Rattle.replica_core.proofs.restart.known_headers.Goals as goal

pub loop-entry-preserved : goal.loop-entry-preserved
loop-entry-preserved c =
    let old = c.loop-entry.known.headers in
    let new = c.add_entry.new.known.headers in
    let x = c.entry-item.result in
    let adds = c.in_ok-add_entry.ensures.ok in
    let l = c.loop-entry-test.true in
    let most = c.loop-entry.invariant.most in
    let grown = length_adds_entry old new x adds in
    record {
      firsts = firsts_more c.args.genesis.now c.args.entries.now c.loop-entry.entry-index x old new l c.entry-item.is c.loop-entry.invariant.firsts adds;
      most = omega arith;
    }

pub returns-clause-firsts : goal.returns-clause-firsts
returns-clause-firsts c =
    firsts_all c.args.genesis.now c.args.entries.now c.loop-entry.entry-index c.loop-entry.known.headers c.loop-entry-test.false c.loop-entry.invariant.firsts
