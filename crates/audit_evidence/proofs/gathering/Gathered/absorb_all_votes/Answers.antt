use Rattle.audit_evidence.specs.NamedVotes.{joined}
use Rattle.audit_evidence.proofs.Gatherings.{on_ok}
use Rattle.audit_evidence.proofs.NamedVotes.{votes_and_lists}
use Rattle.audit_evidence.proofs.gathering.Gathered.absorb_all_votes.Goals as goal

pub returns : goal.returns
returns g c =
    on_ok c.absorb_certificates.result _ _ (votes_and_lists c.args.self.now c.absorb_votes.new.self c.absorb_certificates.new.self c.args.votes.now (joined c.args.certificates.now) c.in_ok-absorb_votes.ensures) c.absorb_certificates.ensures
