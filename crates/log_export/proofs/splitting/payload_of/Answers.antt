use Rattle.std.proofs.Common.{◌≡◌, ◌<◌, inl, inr, sym, arith, rules}
use Rattle.base_wire.specs.Pieces.{number_at}
use Rattle.log_format.proofs.Fronts.{frame_cut}
use Rattle.log_export.proofs.Gates.{no_frame_short, no_frame_of, no_frame_cut}
use Rattle.log_export.proofs.splitting.payload_of.Goals as goal
use Rattle.log_export.proofs.splitting.payload_of.Goals.{then-len-eq0-via-then-len-eq0, then-len-eq0-via-else-len-eq0+then-len-gt-LONGEST_PAYLOAD}

pub returns-then-text-lt4 : goal.returns-then-text-lt4
returns-then-text-lt4 c = no_frame_short c.args.text.now (omega arith)

pub returns-then-len-eq0 : goal.returns-then-len-eq0
returns-then-len-eq0 c =
    elim c.then-len-eq0.branch [
      | then-len-eq0-via-then-len-eq0 w ↦ no_frame_of c.args.text.now c.u32_at-len.result (sym c.u32_at-len.ensures) (inl (omega arith))
      | then-len-eq0-via-else-len-eq0+then-len-gt-LONGEST_PAYLOAD w ↦ no_frame_of c.args.text.now c.u32_at-len.result (sym c.u32_at-len.ensures) (inr (omega arith))
    ]

pub returns-then-text-len : goal.returns-then-text-len
returns-then-text-len c = no_frame_cut c.args.text.now c.u32_at-len.result (sym c.u32_at-len.ensures) (omega arith)

pub returns : goal.returns
returns c = frame_cut c.args.text.now c.u32_at-len.result (λ i. let h = c.type_inv.text i in omega (arith, h)) (omega arith) (sym c.u32_at-len.ensures) (omega arith) (omega arith)
