use Rattle.audit_evidence.proofs.Gatherings.{grown_vote, on_ok}
use Rattle.audit_evidence.proofs.gathering.Gathered.add_vote.Goals as goal

pub returns : goal.returns
returns g c =
    on_ok c.insert.result _ _ (grown_vote c.self.inside.committee c.self.inside.headers c.self.inside.votes c.insert.new.self c.args.self.now c.args.vote c.self.view_is) c.insert.ensures
