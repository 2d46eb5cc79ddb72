use Rattle.std.proofs.Common.{sym, arith}
use Rattle.log_format.proofs.Fronts.{frame_cut}
use Rattle.log_format.proofs.frames.front_of.Goals as goal

pub returns : goal.returns
returns c = (omega arith, frame_cut c.args.rest.now c.u32_at-len.result (λ i. let h = c.type_inv.rest i in omega (arith, h)) (omega arith) (sym c.u32_at-len.ensures) (omega arith) (omega arith))
