use Rattle.std.proofs.Common.{arith}
use Rattle.log_request.proofs.AskedLaws.{frames_only}
use Rattle.log_request.proofs.asking.asked_in.Goals as goal

pub returns-in-Some-clause-only : goal.returns-in-Some-clause-only
returns-in-Some-clause-only c = frames_only c.args.chain.now c.args.bytes.now c.in-Some.request (omega arith) c.in-Some.ensures.found.1 c.in-Some.ensures.only
