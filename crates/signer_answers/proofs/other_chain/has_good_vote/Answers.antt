use Rattle.std.proofs.Common.{◌∙◌, ◌<◌, [], length, get_or, subst, arith, sym}
use Rattle.std.specs.List.{All}
use Rattle.std.proofs.lemmas.Bool.{false≢true}
use Rattle.std.proofs.lemmas.List.{take_all}
use Rattle.std.proofs.lemmas.List.Elements.{All-contains, All-more}
use Rattle.certificates.specs.Certificates.{vote_of}
use Rattle.certificates.specs.GoodCertificates.{IsGoodEntry}
use Rattle.certificates.specs.Votes.{IsGoodVote}
use Rattle.certificates.specs.declared.certificate.Endorsement.{Endorsement}
use Rattle.certificates.specs.declared.vote.SignedVote.{SignedVote}
use Rattle.signer_answers.proofs.other_chain.has_good_vote.Goals as goal

pub loop-k-preserved : goal.loop-k-preserved
loop-k-preserved c =
    let cert = c.args.certificate.now in
    let entries = cert.entries in
    let none : Endorsement = record { replica = 0; key = 0; signature = [] } in
    let k = c.loop-k.k in
    let count = c.count-k-end.ensures.value in
    let test = c.loop-k-test.true in
    let below : k < length entries = omega arith in
    let Good = IsGoodVote c.args.committee.now in
    let not : Good (vote_of cert (get_or entries k none)) → ⊥ =
    subst (λ (v : SignedVote). Good v → ⊥) c.vote-vote.ensures (λ good. false≢true (sym c.if-is_good.false ∙ c.is_good.ensures.1 good)) in
    All-more (λ d. IsGoodEntry c.args.committee.now cert d → ⊥) entries k none below c.loop-k.invariant not

pub returns : goal.returns
returns c =
    let cert = c.args.certificate.now in
    let entries = cert.entries in
    let count = c.count-k-end.ensures.value in
    let test = c.loop-k-test.false in
    let NotGood : Endorsement → Type 0 = λ d. IsGoodEntry c.args.committee.now cert d → ⊥ in
    let all : All NotGood entries = subst (All NotGood) (take_all c.loop-k.k entries (omega arith)) c.loop-k.invariant in
    (λ t. absurd (false≢true t), λ has. absurd (All-contains NotGood entries has.0 all has.1 has.2))
