use Rattle.std.proofs.Common.{sym, arith}
use Rattle.log_format.proofs.Fronts.{frame_cut}
use Rattle.log_transfer.proofs.Decisions.{decides_great, decides_full}
use Rattle.log_transfer.proofs.front.front_of.Goals as goal

pub returns-then-len-gt-LONGEST_PAYLOAD : goal.returns-then-len-gt-LONGEST_PAYLOAD
returns-then-len-gt-LONGEST_PAYLOAD c = decides_great c.args.count c.args.room c.args.rest.now (omega arith) (omega arith)

pub returns-then-room-eq0 : goal.returns-then-room-eq0
returns-then-room-eq0 c = decides_full c.args.count c.args.room c.args.rest.now (omega arith) (omega arith) (omega arith) (omega arith)

pub returns : goal.returns
returns c = (omega arith, frame_cut c.args.rest.now c.u32_at-len.result (λ i. let h = c.type_inv.rest i in omega (arith, h)) (omega arith) (sym c.u32_at-len.ensures) (omega arith) (omega arith))
