use Rattle.std.proofs.Common.{rules, ◌≡◌, ◌<◌, [], true, length, get_or, subst, arith}
use Rattle.std.specs.List.{All}
use Rattle.std.proofs.lemmas.Bool.{false≢true}
use Rattle.std.proofs.lemmas.List.{take_all}
use Rattle.std.proofs.lemmas.List.Elements.{All-contains, All-more}
use Rattle.certificates.specs.Certificates.{vote_of}
use Rattle.certificates.specs.declared.certificate.Endorsement.{Endorsement}
use Rattle.replica_backups.specs.OwnVotes.{IsFamiliar}
use Rattle.replica_backups.proofs.guard.has_foreign_vote.Goals as goal

pub loop-k-preserved : goal.loop-k-preserved
loop-k-preserved c =
    let cert = c.args.certificate.now in
    let entries = cert.entries in
    let none : Endorsement = record { replica = 0; key = 0; signature = [] } in
    let k = c.loop-k.k in
    let count = c.count-k-end.ensures.value in
    let test = c.loop-k-test.true in
    let below : k < length entries = omega arith in
    let Familiar = IsFamiliar c.args.replica c.args.own.now in
    let yes : c.is_familiar.result ≡ true = search rules in
    let known : Familiar (vote_of cert (get_or entries k none)) = subst Familiar c.vote-vote.ensures (c.is_familiar.ensures.yes yes) in
    All-more (λ d. Familiar (vote_of cert d)) entries k none below c.loop-k.invariant known

pub returns : goal.returns
returns c =
    let cert = c.args.certificate.now in
    let entries = cert.entries in
    let count = c.count-k-end.ensures.value in
    let test = c.loop-k-test.false in
    let Familiar = IsFamiliar c.args.replica c.args.own.now in
    let all : All (λ d. Familiar (vote_of cert d)) entries =
    subst (All (λ d. Familiar (vote_of cert d))) (take_all c.loop-k.k entries (omega arith)) c.loop-k.invariant in
    (λ t. absurd (false≢true t), λ h. absurd (h.2.unknown (All-contains (λ d. Familiar (vote_of cert d)) entries h.0 all h.1 h.2.of)))
