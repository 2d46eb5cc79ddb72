use Rattle.audit_evidence.proofs.Gatherings.{on_ok}
use Rattle.audit_evidence.proofs.NamedVotes.{grown_votes}
use Rattle.audit_evidence.proofs.gathering.Gathered.add_votes_of.Goals as goal

pub returns : goal.returns
returns g c =
    on_ok c.insert_certificate.result _ _ (grown_votes c.self.inside.committee c.self.inside.headers c.self.inside.votes c.insert_certificate.new.self c.args.certificate c.args.self.now c.self.view_is) c.insert_certificate.ensures
