use Rattle.std.proofs.Common.{arith, subst}
use Rattle.blocks.specs.Headers.{IsHeader}
use Rattle.blocks.proofs.header.Header.to_bytes.Goals as goal

pub returns-clause-is_header : goal.returns-clause-is_header
returns-clause-is_header c =
    subst IsHeader c.self.view_is (record {
      view = omega arith;
      parent_view = omega arith;
      in_order = c.self.invariant;
      parent = omega arith;
      payload = omega arith;
    })
