use Rattle.std.proofs.Common.{arith}
use Rattle.log_request.proofs.PieceLaws.{fetched}
use Rattle.log_request.proofs.piece.read_piece.Goals as goal

pub returns-in-Ok-Some : goal.returns-in-Ok-Some
returns-in-Ok-Some g c =
    let both = rw c.in-Ok-Some.field-0-is at c.in-Ok-Some.ensures in
    fetched _ _ _ c.in-Some.head c.in-Ok-Some.piece.items c.u32_at-length.result c.args.most c.in-Some.ensures both.1 (omega arith) c.u32_at-length.ensures both.0 c.if-length-most.false
