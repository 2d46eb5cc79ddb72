use Rattle.std.proofs.Common.{ℕ, subst}
use Rattle.log_transfer.specs.Streams.{GaveAll, length_text}
use Rattle.log_transfer.proofs.Ends.{ends_of, came_of}
use Rattle.log_transfer.proofs.stream.read_frame.Goals as goal

pub returns-in-Length-eq0-clause-came : goal.returns-in-Length-eq0-clause-came
returns-in-Length-eq0-clause-came g c =
    let left = g.C.Connector.left in
    ends_of (left c.args.connector.now) (left c.read_length.new.connector) (length_text 0) c.args.count c.args.room c.read_mark.result (subst (λ (n : ℕ). GaveAll (left c.args.connector.now) (left c.read_length.new.connector) (length_text n)) c.in-Length-eq0.field-0-test c.in-Length-eq0.ensures.head) (c.read_mark.ensures.ends c.args.room)

pub returns-in-Length-clause-came : goal.returns-in-Length-clause-came
returns-in-Length-clause-came g c =
    let left = g.C.Connector.left in
    came_of (left c.args.connector.now) (left c.read_length.new.connector) (left c.read_payload.new.connector) c.in-Length.len c.args.count c.args.room c.read_payload.new.buffer c.read_payload.result c.in-Length.ensures.head c.read_payload.ensures.came
