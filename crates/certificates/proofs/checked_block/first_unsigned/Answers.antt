use Rattle.std.proofs.Common.{[], get_or, rules, subst, ◌∙◌}
use Rattle.std.specs.List.{All}
use Rattle.std.proofs.lemmas.List.{take_all}
use Rattle.std.proofs.lemmas.List.Elements.{All-more}
use Rattle.certificates.specs.declared.certificate.Endorsement.{Endorsement}
use Rattle.certificates.specs.BlockChecks.{IsSignedEntry}
use Rattle.certificates.proofs.checked_block.first_unsigned.Goals as goal

pub loop-k-preserved : goal.loop-k-preserved
loop-k-preserved g c =
    let entries = c.entries-entries.result.now in
    let none : Endorsement = record { replica = 0; key = 0; signature = [] } in
    let signed : IsSignedEntry c.args.committee.now c.args.certificate.now (get_or entries c.loop-k.k none) = search rules in
    All-more (IsSignedEntry c.args.committee.now c.args.certificate.now) entries c.loop-k.k none c.loop-k-test.true c.loop-k.invariant signed

pub returns-clause-none : goal.returns-clause-none
returns-clause-none g c =
    subst (All (IsSignedEntry c.args.committee.now c.args.certificate.now))
    (take_all c.loop-k.k c.entries-entries.result.now c.loop-k-test.false ∙ c.entries-entries.ensures.value) c.loop-k.invariant
