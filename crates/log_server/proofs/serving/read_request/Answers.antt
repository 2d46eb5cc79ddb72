use Rattle.std.proofs.Common.{◌<◌, length, take, arith}
use Rattle.std.proofs.lemmas.List.{length-take}
use Rattle.log_server.proofs.Requests.{no_request, short_text, took_all, took_request}
use Rattle.log_server.proofs.serving.read_request.Goals as goal

pub returns-in-None-clause-refused : goal.returns-in-None-clause-refused
returns-in-None-clause-refused g c =
    let rest = g.R.Feed.rest in
    no_request (rest c.args.feed.now) (rest c.fill.new.feed) c.fill.new.buffer (rw c.in-Ok-All.field-0-is at c.in-Ok-All.ensures.filled) c.in-Ok-All.ensures.length (λ r is e. let none = c.in-None.ensures.only r is e in cc)

pub returns-in-Ok-Part-clause-refused : goal.returns-in-Ok-Part-clause-refused
returns-in-Ok-Part-clause-refused g c =
    let rest = g.R.Feed.rest in
    let filled = rw c.in-Ok-Part.field-0-is at c.in-Ok-Part.ensures.filled in
    let short : length (take c.in-Ok-Part.field-0-0 c.fill.new.buffer) < 12 = omega (arith, length-take c.in-Ok-Part.field-0-0 c.fill.new.buffer, filled.0, c.in-Ok-Part.ensures.length) in
    short_text (rest c.args.feed.now) (rest c.fill.new.feed) (take c.in-Ok-Part.field-0-0 c.fill.new.buffer) short filled.1

pub returns-in-Some-clause-taken : goal.returns-in-Some-clause-taken
returns-in-Some-clause-taken g c =
    let rest = g.R.Feed.rest in
    took_request (rest c.args.feed.now) (rest c.fill.new.feed) c.fill.new.buffer (rw c.in-Ok-All.field-0-is at c.in-Ok-All.ensures.filled) c.in-Ok-All.ensures.length

pub returns-in-None-clause-left : goal.returns-in-None-clause-left
returns-in-None-clause-left g c other =
    let rest = g.R.Feed.rest in
    took_request (rest c.args.feed.now) (rest c.fill.new.feed) c.fill.new.buffer (rw c.in-Ok-All.field-0-is at c.in-Ok-All.ensures.filled) c.in-Ok-All.ensures.length

pub returns-in-Ok-Part-clause-left : goal.returns-in-Ok-Part-clause-left
returns-in-Ok-Part-clause-left g c other =
    let rest = g.R.Feed.rest in
    let filled = rw c.in-Ok-Part.field-0-is at c.in-Ok-Part.ensures.filled in
    let short : length (take c.in-Ok-Part.field-0-0 c.fill.new.buffer) < 12 = omega (arith, length-take c.in-Ok-Part.field-0-0 c.fill.new.buffer, filled.0, c.in-Ok-Part.ensures.length) in
    took_all (rest c.args.feed.now) (rest c.fill.new.feed) (take c.in-Ok-Part.field-0-0 c.fill.new.buffer) short filled.1
