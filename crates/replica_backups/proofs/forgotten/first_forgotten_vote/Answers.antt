use Rattle.std.proofs.Common.{◌∙◌, ◌<◌, [], length, get_or, subst, arith, sym}
use Rattle.std.specs.List.{All}
use Rattle.std.proofs.lemmas.Bool.{false≢true}
use Rattle.std.proofs.lemmas.List.{take_all}
use Rattle.std.proofs.lemmas.List.Elements.{All-more}
use Rattle.certificates.specs.Certificates.{vote_of}
use Rattle.certificates.specs.declared.certificate.Endorsement.{Endorsement}
use Rattle.certificates.specs.declared.vote.SignedVote.{SignedVote}
use Rattle.replica_backups.specs.Forgotten.{IsForgottenVote}
use Rattle.replica_backups.proofs.forgotten.first_forgotten_vote.Goals as goal

pub loop-k-preserved : goal.loop-k-preserved
loop-k-preserved c =
    let cert = c.args.certificate.now in
    let entries = cert.entries in
    let none : Endorsement = record { replica = 0; key = 0; signature = [] } in
    let k = c.loop-k.k in
    let count = c.count-k-end.ensures.value in
    let test = c.loop-k-test.true in
    let below : k < length entries = omega arith in
    let Forgotten = IsForgottenVote c.args.committee.now c.args.replica c.args.own.now in
    let not : Forgotten (vote_of cert (get_or entries k none)) → ⊥ =
    subst (λ (v : SignedVote). Forgotten v → ⊥) c.vote-vote.ensures (λ f. false≢true (sym c.if-is_forgotten_vote.false ∙ c.is_forgotten_vote.ensures.1 f)) in
    All-more (λ d. Forgotten (vote_of cert d) → ⊥) entries k none below c.loop-k.invariant not

pub returns : goal.returns
returns c =
    let cert = c.args.certificate.now in
    let entries = cert.entries in
    let count = c.count-k-end.ensures.value in
    let test = c.loop-k-test.false in
    let Forgotten = IsForgottenVote c.args.committee.now c.args.replica c.args.own.now in
    subst (All (λ d. Forgotten (vote_of cert d) → ⊥)) (take_all c.loop-k.k entries (omega arith)) c.loop-k.invariant
