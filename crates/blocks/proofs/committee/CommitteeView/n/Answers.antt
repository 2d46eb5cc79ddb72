use Rattle.std.proofs.Common.{◌∙◌, ap, arith}
use Rattle.blocks.specs.Committees.{n_of}
use Rattle.blocks.proofs.CommitteeLaws.{parts_in, size_of}
use Rattle.blocks.proofs.committee.CommitteeView.n.Goals as goal

pub u16_at-requires : goal.u16_at-requires
u16_at-requires c = let s = size_of c.self.inside.bytes.now c.self.invariant.0 in omega (arith, s.eight)

pub returns-clause-as_written : goal.returns-clause-as_written
returns-clause-as_written c members is = c.u16_at.ensures ∙ ap n_of c.self.view_is ∙ (parts_in members c.args.self.now is).n_here

pub returns-clause-least : goal.returns-clause-least
returns-clause-least c = let s = size_of c.self.inside.bytes.now c.self.invariant.0 in omega (arith, s.least, c.u16_at.ensures)

pub returns-clause-most : goal.returns-clause-most
returns-clause-most c = let s = size_of c.self.inside.bytes.now c.self.invariant.0 in omega (arith, s.most, c.u16_at.ensures)
