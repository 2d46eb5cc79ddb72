use Rattle.std.proofs.Common.{◌≡◌, ℕ, List, inr, rules, subst, sym}
use Rattle.replica_backups.specs.OwnVotes.{ShowsForeignVote}
use Rattle.signer_answers.specs.Guards.{IsFoundIn, IsSpoilt, votes_found}
use Rattle.signer_answers.proofs.guard.forgets.Goals as goal

pub returns-then-not-has_other_vote-2-clause-remembered : goal.returns-then-not-has_other_vote-2-clause-remembered
returns-then-not-has_other_vote-2-clause-remembered g c = λ no.
    let n = g.N.DeskNaming in
    let certificate = c.args.block.now.certificate in
    let view : c.view.result ≡ certificate.view = search rules in
    inr (
      c.in-Ok.found,
      subst (λ (v : ℕ). IsFoundIn g.D.Disk n.committee n.replica n.opening c.args.receipts.now v c.in-Ok.found) view c.in-Ok.ensures.found,
      λ shows. let yes = c.has_other_vote-2.ensures.1 (subst (λ (r : ℕ). ShowsForeignVote r (votes_found c.in-Ok.found) certificate) (sym c.args.office.now.replica_is) shows) in search rules,
    )

pub returns-in-Err-see_sound-clause-refused : goal.returns-in-Err-see_sound-clause-refused
returns-in-Err-see_sound-clause-refused g c =
    let n = g.N.DeskNaming in
    let office = c.args.office.now in
    let certificate = c.args.block.now.certificate in
    let found = c.in-Ok.found in
    let view : c.view.result ≡ certificate.view = search rules in
    let foreign : ShowsForeignVote office.replica (votes_found found) certificate = search rules in
    inr (record {
      found = found;
      read = subst (λ (v : ℕ). IsFoundIn g.D.Disk n.committee n.replica n.opening c.args.receipts.now v found) view c.in-Ok.ensures.found;
      foreign = subst (λ (r : ℕ). ShowsForeignVote r (votes_found found) certificate) office.replica_is foreign;
      spoilt = subst (λ (x : List ℕ). IsSpoilt x found c.in-Err-see_sound.error) office.committee_is c.in-Err-see_sound.ensures.spoilt;
    })
