use Rattle.std.proofs.Common.{sym, ◌∙◌}
use Rattle.base_wire.proofs.Firsts.{first_at}
use Rattle.blocks.specs.CommitteeReading.{first_twin_of}
use Rattle.blocks.proofs.committee.first_twin.Goals as goal

pub returns-in-Some : goal.returns-in-Some
returns-in-Some c =
    sym (first_at (first_twin_of c.args.bytes.now) c.args.n c.loop-s.s c.in-Some.refusal c.loop-s.invariant (sym c.first_twin_of.ensures ∙ c.in-Some.is) c.loop-s-test.true)
