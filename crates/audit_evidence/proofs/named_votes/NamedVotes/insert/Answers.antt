use Rattle.std.proofs.Common.{◌≡◌, List, subst}
use Rattle.audit_evidence.specs.NamedVotes.{all_votes, joined}
use Rattle.certificates.specs.declared.vote.SignedVote.{SignedVote}
use Rattle.audit_evidence.specs.Gathering.{Gains}
use Rattle.audit_evidence.proofs.Gatherings.{on_ok}
use Rattle.audit_evidence.proofs.NamedVotes.{gained_before}
use Rattle.audit_evidence.proofs.named_votes.NamedVotes.insert.Goals as goal

pub returns : goal.returns
returns g c =
    let old = c.self.inside.alone in
    let rest = joined c.self.inside.certificates.items in
    let new = c.insert.new.self in
    let P : SignedVote → Type 0 = λ v. v ≡ c.args.vote in
    on_ok c.insert.result _ _ (λ g. subst (λ (xs : List SignedVote). Gains xs (all_votes new c.self.inside.certificates.items) P) c.self.view_is (gained_before old new rest P g)) c.insert.ensures.ok
