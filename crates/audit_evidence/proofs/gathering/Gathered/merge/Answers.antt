use Rattle.std.specs.List.{Contains}
use Rattle.audit_evidence.specs.Gathering.{IsNone}
use Rattle.audit_evidence.specs.NamedVotes.{all_votes}
use Rattle.audit_evidence.proofs.Gatherings.{grown_as, grown_both, none_first, none_last}
use Rattle.audit_evidence.proofs.gathering.Gathered.merge.Goals as goal

pub returns-clause-ok : goal.returns-clause-ok
returns-clause-ok g c =
    let a = c.args.self.now in
    let b = c.absorb_headers.new.self in
    let d = c.absorb_all_votes.new.self in
    let hs = c.args.headers.now in
    let vs = all_votes c.args.votes.now c.args.certificates.now in
    grown_as a d _ _ _ _ (λ h. none_last (Contains hs) h) (λ v. none_first (Contains vs) v)
    (grown_both a b d (Contains hs) IsNone IsNone (Contains vs) c.in_ok-absorb_headers.ensures.ok c.in_ok-absorb_all_votes.ensures)
