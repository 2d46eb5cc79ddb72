use Rattle.std.proofs.Common.{rules}
use Rattle.std.specs.List.{All}
use Rattle.certificates.specs.BlockChecks.{HasCount, AreInCommittee, HaveKnownKeys, IsOnParent, IsSignedEntry}
use Rattle.certificates.proofs.GoodBlocks.{good_from, count_from}
use Rattle.certificates.proofs.checked_block.judge.Goals as goal

pub returns-then-not-has_count-clause-exact : goal.returns-then-not-has_count-clause-exact
returns-then-not-has_count-clause-exact g c =
    let committee = c.args.committee.now in
    let certificate = c.args.certificate.now in
    let fails : HasCount committee certificate → ⊥ = search rules in
    (λ e. absurd cc, λ is. absurd (fails (count_from committee certificate is.good)))

pub returns-clause-exact : goal.returns-clause-exact
returns-clause-exact g c =
    let committee = c.args.committee.now in
    let certificate = c.args.certificate.now in
    let parent : IsOnParent c.args.header.now certificate = search rules in
    let count : HasCount committee certificate = search rules in
    let known : AreInCommittee committee certificate = search rules in
    let keys : HaveKnownKeys committee certificate = search rules in
    let signed : All (IsSignedEntry committee certificate) certificate.entries = search rules in
    (λ _. record { parent = parent; good = good_from committee certificate count known keys signed c.has_count.ensures.rising }, λ _. search rules)
