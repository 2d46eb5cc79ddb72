use Rattle.std.proofs.Common.{◌<◌, length, take, arith, subst, sym}
use Rattle.std.proofs.lemmas.List.{length-take}
use Rattle.log_format.specs.declared.status.Status.{Status}
use Rattle.log_transfer.specs.Streams.{EndsBehind, length_text}
use Rattle.log_transfer.proofs.Ends.{ends_whole, ends_other, ends_mark_part}
use Rattle.log_transfer.proofs.stream.read_mark.Goals as goal

pub returns-then-number_of-count-clause-ends : goal.returns-then-number_of-count-clause-ends
returns-then-number_of-count-clause-ends g c = λ room.
    let left = g.C.Connector.left in
    let some = g.met.C.Connector.some c.fill.new.connector in
    ends_whole (left c.args.connector.now) (left c.fill.new.connector) c.fill.new.buffer c.number_of.result c.number_of.ensures (omega arith) c.in-All.ensures.filled some.0 some.1 c.args.count room c.if-number_of-count.true

pub returns-else-number_of-count-clause-ends : goal.returns-else-number_of-count-clause-ends
returns-else-number_of-count-clause-ends g c = λ room.
    let left = g.C.Connector.left in
    let some = g.met.C.Connector.some c.fill.new.connector in
    ends_other (left c.args.connector.now) (left c.fill.new.connector) c.fill.new.buffer c.number_of.result c.number_of.ensures (omega arith) c.in-All.ensures.filled some.0 some.1 c.args.count room c.if-number_of-count.false

pub returns-in-Part-clause-ends : goal.returns-in-Part-clause-ends
returns-in-Part-clause-ends g c = λ room.
    let filled = c.in-Part.ensures.filled in
    let bytes = c.fill.new.buffer in
    let left = g.C.Connector.left c.args.connector.now in
    let short : length (take c.in-Part.field-0 bytes) < 4 = omega (arith, length-take c.in-Part.field-0 bytes, filled.0, c.in-Part.ensures.length) in
    subst (λ (s : Status). EndsBehind left (length_text 0) c.args.count room s) (sym c.unfinished.ensures.value)
    (ends_mark_part left (take c.in-Part.field-0 bytes) c.in-Part.failed c.args.count room short filled.1)
