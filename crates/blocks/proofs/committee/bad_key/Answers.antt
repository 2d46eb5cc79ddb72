use Rattle.std.proofs.Common.{sym, ◌∙◌}
use Rattle.base_wire.proofs.Firsts.{first_at}
use Rattle.blocks.specs.CommitteeReading.{bad_key_of}
use Rattle.blocks.proofs.committee.bad_key.Goals as goal

pub returns-in-Some : goal.returns-in-Some
returns-in-Some c =
    sym (first_at (bad_key_of c.args.bytes.now) c.args.n c.loop-r.r c.in-Some.refusal c.loop-r.invariant (sym c.bad_key_of.ensures ∙ c.in-Some.is) c.loop-r-test.true)
