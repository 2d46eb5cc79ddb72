use Rattle.std.proofs.Common.{sym}
use Rattle.handover_light.proofs.Headers.{read_header}
use Rattle.handover_light.proofs.format.header_in.Goals as goal

pub returns-in-Ok-clause-ok : goal.returns-in-Ok-clause-ok
returns-in-Ok-clause-ok c = (
  read_header c.args.bytes.now c.header_piece.result.now c.args.k c.in-Ok.header c.header_piece.ensures (sym c.in-Ok.ensures.first_refusal),
  c.in-Ok.ensures.found.0,
)
