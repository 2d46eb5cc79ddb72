use Rattle.std.proofs.Common.{◌≡◌, ℕ, List, [], inr, rules, subst}
use Rattle.std.specs.Prelude.{Option, Some, None}
use Rattle.certificates.specs.declared.vote.SignedVote.{SignedVote}
use Rattle.signer_answers.specs.Guards.{IsFoundIn, IsSpoilt}
use Rattle.signer_answers.proofs.Looked.{IsFirstOther, spoilt_beside}
use Rattle.signer_answers.proofs.looking.forgotten_in.Goals as goal

pub returns-in_default-clause-shown : goal.returns-in_default-clause-shown
returns-in_default-clause-shown g c =
    let n = g.N.DeskNaming in
    let office = c.args.office.now in
    let certificate = c.args.certificate.now in
    let found = c.in-Ok.found in
    let view : c.view.result ≡ certificate.view = search rules in
    let none : c.first_other.result ≡ None = search rules in
    inr (
      found,
      subst (λ (v : ℕ). IsFoundIn g.D.Disk n.committee n.replica n.opening [] v found) view c.in-Ok.ensures.found,
      subst (λ (o : Option SignedVote). IsFirstOther n.replica n.committee certificate found o) none
          (subst (λ (r : ℕ). IsFirstOther r n.committee certificate found c.first_other.result) office.replica_is
          (subst (λ (x : List ℕ). IsFirstOther office.replica x certificate found c.first_other.result) office.committee_is c.first_other.ensures)),
    )

pub returns-in-Err-see_sound-clause-refused : goal.returns-in-Err-see_sound-clause-refused
returns-in-Err-see_sound-clause-refused g c =
    let n = g.N.DeskNaming in
    let office = c.args.office.now in
    let certificate = c.args.certificate.now in
    let found = c.in-Ok.found in
    let vote = c.in-Some.vote in
    let e = c.in-Err-see_sound.error in
    let view : c.view.result ≡ certificate.view = search rules in
    let some : c.first_other.result ≡ Some vote = search rules in
    inr (spoilt_beside g.D.Disk n.committee n.replica n.opening certificate found vote e
    (subst (λ (v : ℕ). IsFoundIn g.D.Disk n.committee n.replica n.opening [] v found) view c.in-Ok.ensures.found)
    (subst (λ (o : Option SignedVote). IsFirstOther n.replica n.committee certificate found o) some
    (subst (λ (r : ℕ). IsFirstOther r n.committee certificate found c.first_other.result) office.replica_is
    (subst (λ (x : List ℕ). IsFirstOther office.replica x certificate found c.first_other.result) office.committee_is c.first_other.ensures)))
    (subst (λ (x : List ℕ). IsSpoilt x found e) office.committee_is c.in-Err-see_sound.ensures.spoilt))
