use Rattle.std.proofs.Common.{◌<◌, sym, ◌∙◌, arith}
use Rattle.base_wire.proofs.Firsts.{first_at}
use Rattle.blocks.specs.Committees.{keys_of}
use Rattle.blocks.specs.CommitteeReading.{twin_of}
use Rattle.blocks.proofs.committee.first_twin_of.Goals as goal

pub returns-in-Some : goal.returns-in-Some
returns-in-Some c =
    let bytes = c.args.bytes.now in
    let s = c.args.replica in
    let below : c.loop-key.key < keys_of bytes s = omega (arith, c.loop-key-test.true, c.keys_of-key-end.ensures) in
    sym (first_at (twin_of bytes s) (keys_of bytes s) c.loop-key.key c.in-Some.refusal c.loop-key.invariant (sym c.twin_of.ensures ∙ c.in-Some.is) below)
