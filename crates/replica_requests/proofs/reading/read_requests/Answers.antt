use Rattle.std.proofs.Common.{◌≡◌, ◌+◌, ◌<◌, ◌∙◌, ℕ, ap, arith, length, refl, rules, take}
use Rattle.std.proofs.lemmas.Result.{IfOk-weaker}
use Rattle.base_streams.specs.Counting.{one_more}
use Rattle.replica_requests.specs.declared.reading.TheConstants.{MOST_LINES}
use Rattle.replica_requests.proofs.Giving.{at_end, at_failure, at_most, goes_on}
use Rattle.replica_requests.proofs.reading.read_requests.Goals as goal

pub returns-in_default-clause-ok : goal.returns-in_default-clause-ok
returns-in_default-clause-ok g c =
    let begun = c.reads.invariant in
    let risen = c.in_default.ensures.counted.risen ∙ ap (λ (n : ℕ). one_more n) begun.1 in
    at_failure _ _ _ c.reads.counter _ _ c.reads.intake.requests.items c.reads.intake.line begun.2 c.in_default.ensures.err begun.0 risen

pub returns-then-n-eq0-clause-ok : goal.returns-then-n-eq0-clause-ok
returns-then-n-eq0-clause-ok g c =
    let begun = c.reads.invariant in
    let room : 0 < length c.read.new.buffer = omega arith in
    IfOk-weaker c.finish.result _ _ (λ requests finished. at_end _ _ _ c.reads.counter c.in-Ok.n _ _ c.read.new.buffer c.reads.intake.requests.items requests.items c.reads.intake.line
    begun.2 c.in-Ok.ensures.ok c.if-n-eq0.true room (c.in-Ok.ensures.counted.kept ∙ begun.1) finished) c.finish.ensures.ok

pub returns-then-is_full-clause-ok : goal.returns-then-is_full-clause-ok
returns-then-is_full-clause-ok g c =
    let begun = c.reads.invariant in
    let requests = c.take.new.self.requests.items in
    let some : 0 < c.in-Ok.n = grind arith in
    let full : length requests ≡ MOST_LINES = search rules in
    let reading = goes_on _ _ _ c.reads.counter c.in-Ok.n c.read.new.buffer (take c.in-Ok.n c.read.new.buffer) _ requests _ c.take.new.self.line
    begun.2 c.in-Ok.ensures.ok some refl c.in_ok-take.ensures.ok in
    at_most _ _ (c.reads.counter + 1) _ _ requests c.take.new.self.line reading full (c.in-Ok.ensures.counted.kept ∙ begun.1)

pub reads-preserved : goal.reads-preserved
reads-preserved g c =
    let begun = c.reads.invariant in
    let requests = c.take.new.self.requests.items in
    let some : 0 < c.in-Ok.n = grind arith in
    let fewer : length requests < MOST_LINES = grind arith in
    let reading = goes_on _ _ _ c.reads.counter c.in-Ok.n c.read.new.buffer (take c.in-Ok.n c.read.new.buffer) _ requests _ c.take.new.self.line
    begun.2 c.in-Ok.ensures.ok some refl c.in_ok-take.ensures.ok in
    (fewer, c.in-Ok.ensures.counted.kept ∙ begun.1, reading)
