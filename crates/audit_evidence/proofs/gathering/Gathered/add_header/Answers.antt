use Rattle.std.proofs.Common.{◌≡◌, ◌∙◌, subst}
use Rattle.blocks.specs.Headers.{Header}
use Rattle.audit_evidence.specs.Gathering.{Gains}
use Rattle.audit_evidence.proofs.Gatherings.{grown_header}
use Rattle.audit_evidence.proofs.gathering.Gathered.add_header.Goals as goal

pub returns-clause-ok : goal.returns-clause-ok
returns-clause-ok g c =
    grown_header c.self.inside.committee c.self.inside.headers c.insert.new.self c.self.inside.votes c.args.self.now c.args.header.now c.self.view_is
    (subst (λ (h : Header). Gains c.self.inside.headers c.insert.new.self (λ x. x ≡ h)) (c.in_ok-header.ensures ∙ c.of-named.ensures) c.in_ok-insert.ensures.ok)
