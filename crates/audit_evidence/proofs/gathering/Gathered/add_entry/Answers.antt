use Rattle.audit_evidence.specs.Gathering.{IsNone}
use Rattle.audit_evidence.specs.Logs.{HasHeader, HasVote}
use Rattle.audit_evidence.proofs.Gatherings.{grown_as, grown_both, none_first, none_last}
use Rattle.audit_evidence.proofs.gathering.Gathered.add_entry.Goals as goal

pub returns-clause-ok : goal.returns-clause-ok
returns-clause-ok g c =
    let e = c.args.entry.now in
    let a = c.args.self.now in
    let b = c.add_headers.new.self in
    let d = c.add_votes.new.self in
    grown_as a d _ _ _ _ (none_last (HasHeader e)) (none_first (HasVote c.args.replica e))
    (grown_both a b d (HasHeader e) IsNone IsNone (HasVote c.args.replica e) c.in_ok-add_headers.ensures.ok c.in_ok-add_votes.ensures)
