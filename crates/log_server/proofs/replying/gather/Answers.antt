use Rattle.std.proofs.Common.{◌≡◌, ◌<◌, ◌+◌, ◌-◌, ◌∙◌, ap, length, arith, length-append}
use Rattle.log_request.proofs.GatheringLaws.{at_most, one_more}
use Rattle.log_server.proofs.Asked.{byte_more, gathered_end, not_whole, on_err}
use Rattle.log_server.proofs.Requests.{gave_more, took_first}
use Rattle.log_server.proofs.replying.gather.Goals as goal

pub loop-byte-preserved : goal.loop-byte-preserved
loop-byte-preserved g c =
    let inv = c.loop-byte.invariant in
    let rest = g.R.Feed.rest in
    let short = not_whole c.is_whole.result c.loop-byte.request c.loop-byte-test.true c.is_whole.ensures.exact c.is_whole.ensures.within in
    let one : length c.read.new.buffer ≡ 1 = omega arith in
    let is = c.take.ensures ∙ byte_more c.loop-byte.request c.read.new.buffer c.in_ok-n.n short one c.in_ok-n.ensures.within c.if-n-eq0.false in
    record {
      gave = gave_more (rest c.args.feed.now) (rest c.loop-byte.feed) (rest c.read.new.self) c.loop-byte.request c.read.new.buffer _ c.in_ok-n.n is inv.gave c.in_ok-n.ensures.ok;
      failed = c.in_ok-n.ensures.counted.kept ∙ inv.failed;
    }

pub loop-byte-smaller : goal.loop-byte-smaller
loop-byte-smaller g c =
    let short = not_whole c.is_whole.result c.loop-byte.request c.loop-byte-test.true c.is_whole.ensures.exact c.is_whole.ensures.within in
    let one : length c.read.new.buffer ≡ 1 = omega arith in
    let is = c.take.ensures ∙ one_more c.loop-byte.request c.read.new.buffer short one in
    let more : length c.take.new.self ≡ length c.loop-byte.request + 1 = omega (arith, ap length is, length-append c.loop-byte.request c.read.new.buffer, one) in
    let most = at_most c.loop-byte.request in
    let less : 44 - length c.take.new.self < 44 - length c.loop-byte.request = omega arith in
    less

pub returns-in_err-n-clause-err : goal.returns-in_err-n-clause-err
returns-in_err-n-clause-err g c =
    let rest = g.R.Feed.rest in
    let short = not_whole c.is_whole.result c.loop-byte.request c.loop-byte-test.true c.is_whole.ensures.exact c.is_whole.ensures.within in
    let most = at_most c.loop-byte.request in
    on_err c.from_residual.result _ (took_first (rest c.args.feed.now) (rest c.loop-byte.feed) (rest c.read.new.self) c.loop-byte.request 44 (omega arith) c.loop-byte.invariant.gave c.in_err-n.ensures.err)

pub returns-then-n-eq0-clause-gathered : goal.returns-then-n-eq0-clause-gathered
returns-then-n-eq0-clause-gathered g c =
    let rest = g.R.Feed.rest in
    gathered_end (rest c.args.feed.now) (rest c.loop-byte.feed) (rest c.read.new.self) c.loop-byte.request c.read.new.buffer c.in_ok-n.n c.is_whole.ensures.within c.loop-byte.invariant.gave c.in_ok-n.ensures.ok c.if-n-eq0.true (omega arith)
