use Rattle.std.proofs.Common.{◌≡◌, ◌∙◌, inr, rules, subst}
use Rattle.certificates.specs.Certificates.{Certificate}
use Rattle.signer_answers.specs.Lookings.{OwnVoteShows, ShowsNone}
use Rattle.signer_answers.proofs.looking.forgotten_of.Goals as goal

pub returns-in-Ok-Some-own_forgotten_in-clause-shown :
    goal.returns-in-Ok-Some-own_forgotten_in-clause-shown
returns-in-Ok-Some-own_forgotten_in-clause-shown g c =
    let n = g.N.DeskNaming in
    let none : ShowsNone g.D.Disk n.committee n.replica n.opening c.certificate.result.now = search rules in
    let own : OwnVoteShows g.D.Disk n.committee n.replica n.opening c.args.entry.now c.in-Ok-Some-own_forgotten_in.vote = search rules in
    let same : c.args.owner ≡ c.args.office.now.replica = search rules in
    inr (
      subst (λ (x : Certificate). ShowsNone g.D.Disk n.committee n.replica n.opening x) c.certificate.ensures.value none,
      same ∙ c.args.office.now.replica_is,
      own,
    )
