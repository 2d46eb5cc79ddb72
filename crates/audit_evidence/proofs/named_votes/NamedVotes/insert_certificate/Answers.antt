use Rattle.std.proofs.Common.{List, refl, sym, subst}
use Rattle.std.specs.List.{Contains}
use Rattle.certificates.specs.declared.vote.SignedVote.{SignedVote}
use Rattle.audit_evidence.specs.Gathering.{Gains}
use Rattle.audit_evidence.specs.NamedVotes.{all_votes, joined}
use Rattle.audit_evidence.proofs.NamedVotes.{gained_certificate, gained_held}
use Rattle.audit_evidence.proofs.named_votes.NamedVotes.insert_certificate.Goals as goal

pub returns-then-has_same : goal.returns-then-has_same
returns-then-has_same g c =
    let alone = c.self.inside.alone in
    let lists = c.self.inside.certificates.items in
    let more = c.args.certificate in
    subst (λ (xs : List SignedVote). Gains xs xs (Contains more)) c.self.view_is
    (gained_held alone lists more (λ v has.
    subst (λ (all : List (List SignedVote)). Contains (joined all) v) c.deref.ensures.value
    (c.if-has_same.ensures refl v (subst (λ (votes : List SignedVote). Contains votes v) (sym c.get-3.ensures) has))))

pub returns : goal.returns
returns g c =
    let alone = c.self.inside.alone in
    let old = c.self.inside.certificates.items in
    let more = c.args.certificate in
    subst (λ (xs : List SignedVote). Gains xs (all_votes alone c.push.new.self.items) (Contains more)) c.self.view_is
    (subst (λ (lists : List (List SignedVote)). Gains (all_votes alone old) (all_votes alone lists) (Contains more)) (sym c.in_ok-push.ensures.items)
    (gained_certificate alone old more))
