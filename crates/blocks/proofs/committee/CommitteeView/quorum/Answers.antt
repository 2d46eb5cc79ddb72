use Rattle.std.proofs.Common.{arith}
use Rattle.blocks.proofs.CommitteeLaws.{total_below}
use Rattle.blocks.proofs.committee.CommitteeView.quorum.Goals as goal

pub overflow_mul-result : goal.overflow_mul-result
overflow_mul-result c = let below = total_below c.self.inside.bytes.now c.self.invariant.0 in omega (arith, c.self.invariant.2)

pub returns-clause-most : goal.returns-clause-most
returns-clause-most c = let below = total_below c.self.inside.bytes.now c.self.invariant.0 in omega (arith, c.self.invariant.2)
