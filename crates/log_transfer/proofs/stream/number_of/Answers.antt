use Rattle.std.proofs.Common.{arith, sym}
use Rattle.log_transfer.proofs.Ends.{length_read}
use Rattle.log_transfer.proofs.stream.number_of.Goals as goal

pub returns : goal.returns
returns c = length_read c.args.bytes.now c.u32_at.result (λ i. let h = c.type_inv.bytes i in omega (arith, h)) (omega arith) (sym c.u32_at.ensures)
