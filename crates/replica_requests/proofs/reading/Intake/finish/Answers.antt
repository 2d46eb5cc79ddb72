use Rattle.replica_requests.proofs.Taking.{ends_inside, ends_there}
use Rattle.replica_requests.proofs.reading.Intake.finish.Goals as goal

pub returns-then-is_empty-clause-ok : goal.returns-then-is_empty-clause-ok
returns-then-is_empty-clause-ok c text taken =
    ends_there text _ _ taken c.requires (λ l held. (c.is_empty.ensures l held).0 c.if-is_empty.true)

pub returns-clause-ok : goal.returns-clause-ok
returns-clause-ok c text taken =
    ends_inside text _ _ _ taken c.requires (λ l held empty. absurd (cc (c.if-is_empty.false, (c.is_empty.ensures l held).1 empty))) c.in_ok-end_line.ensures.added
