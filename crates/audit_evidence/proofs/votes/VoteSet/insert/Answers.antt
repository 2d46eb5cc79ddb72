use Rattle.std.proofs.Common.{◌≡◌, List, subst}
use Rattle.certificates.specs.declared.vote.SignedVote.{SignedVote}
use Rattle.audit_evidence.specs.Gathering.{Gains}
use Rattle.audit_evidence.proofs.VoteSets.{gained}
use Rattle.audit_evidence.proofs.votes.VoteSet.insert.Goals as goal

pub returns-clause-ok : goal.returns-clause-ok
returns-clause-ok c =
    subst (λ (old : List SignedVote). Gains old c.insert.new.self.keys (λ w. w ≡ c.args.vote)) c.self.view_is
    (gained c.self.inside.votes c.insert.new.self c.args.vote c.in_ok-insert.ensures.updates)
