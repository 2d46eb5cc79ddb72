use Rattle.std.proofs.Common.{◌<◌, length, take, arith, sym, subst}
use Rattle.std.proofs.lemmas.List.{length-take}
use Rattle.log_format.specs.declared.status.Status.{Status}
use Rattle.log_transfer.specs.Streams.{EndsBehind, length_text}
use Rattle.log_transfer.proofs.Ends.{ends_great, ends_full, ends_frame}
use Rattle.log_transfer.proofs.stream.read_payload.Goals as goal

pub returns-then-len-gt-LONGEST_PAYLOAD-clause-came : goal.returns-then-len-gt-LONGEST_PAYLOAD-clause-came
returns-then-len-gt-LONGEST_PAYLOAD-clause-came g c =
    let some = g.met.C.Connector.some c.args.connector.now in
    ends_great (g.C.Connector.left c.args.connector.now) some.0 c.args.len c.args.count c.args.room some.1 (omega arith) (omega arith)

pub returns-then-room-eq0-clause-came : goal.returns-then-room-eq0-clause-came
returns-then-room-eq0-clause-came g c =
    let some = g.met.C.Connector.some c.args.connector.now in
    ends_full (g.C.Connector.left c.args.connector.now) some.0 c.args.len c.args.count c.args.room some.1 (omega arith) (omega arith) (omega arith)

pub returns-in-Part-clause-came : goal.returns-in-Part-clause-came
returns-in-Part-clause-came g c =
    let filled = c.in-Part.ensures.filled in
    let bytes = c.fill.new.buffer in
    let left = g.C.Connector.left c.args.connector.now in
    let short : length (take c.in-Part.field-0 bytes) < c.args.len = omega (arith, length-take c.in-Part.field-0 bytes, filled.0, c.in-Part.ensures.length, length-take c.args.len c.args.buffer.now) in
    subst (λ (s : Status). EndsBehind left (length_text c.args.len) c.args.count c.args.room s) (sym c.unfinished.ensures.value)
    (ends_frame left (take c.in-Part.field-0 bytes) c.in-Part.failed c.args.len c.args.count c.args.room (omega arith) (omega arith) (omega arith) short filled.1)
