use Rattle.std.proofs.Common.{◌≡◌, ◌++◌, subst}
use Rattle.blocks.specs.Headers.{Header}
use Rattle.audit_evidence.specs.Gathering.{Gains}
use Rattle.audit_evidence.proofs.Gatherings.{grown_header}
use Rattle.watch_collector.proofs.Judging.{judged_header}
use Rattle.watch_collector.proofs.growing.Growing.add_header.Goals as goal

pub invariant_of-self-2 : goal.invariant_of-self-2
invariant_of-self-2 c =
    judged_header c.self.inside.committee c.self.inside.headers c.insert.new.self c.self.inside.good c.self.inside.bad c.in_ok-new.field-0 c.self.invariant c.in_ok-insert.ensures.ok

pub returns-clause-ok : goal.returns-clause-ok
returns-clause-ok c =
    grown_header c.self.inside.committee c.self.inside.headers c.insert.new.self (c.self.inside.good ++ c.self.inside.bad) c.args.self.now c.args.header.now c.self.view_is
    (subst (λ (h : Header). Gains c.self.inside.headers c.insert.new.self (λ x. x ≡ h)) c.in_ok-new.ensures c.in_ok-insert.ensures.ok)
