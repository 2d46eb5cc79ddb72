use Rattle.std.proofs.Common.{arith}
use Rattle.culprit_search.proofs.LockFacts.{lock_at_most}
use Rattle.culprit_search.proofs.locks.with_lock.Goals as goal

pub returns-in-Some-clause-joined : goal.returns-in-Some-clause-joined
returns-in-Some-clause-joined c = lock_at_most c.args.evidence.now c.args.vote.now c.in-Some.lock c.in-Some.lock c.in-Some.ensures.is_evidence c.in-Some.ensures.lock (omega arith)

pub returns-in_default-clause-joined : goal.returns-in_default-clause-joined
returns-in_default-clause-joined c = lock_at_most c.args.evidence.now c.args.vote.now c.in-Some.lock c.args.view c.in-Some.ensures.is_evidence c.in-Some.ensures.lock (omega arith)

pub returns-in_default-2-clause-joined : goal.returns-in_default-2-clause-joined
returns-in_default-2-clause-joined c = λ view lock. absurd (c.in_default.ensures.lock view lock)
