use Rattle.std.proofs.Common.{◌<◌, [], get_or, rules, subst, ◌∙◌}
use Rattle.std.specs.List.{All}
use Rattle.std.proofs.lemmas.List.{take_all}
use Rattle.std.proofs.lemmas.List.Elements.{All-more}
use Rattle.blocks.specs.Committees.{keys_of}
use Rattle.certificates.specs.declared.certificate.Endorsement.{Endorsement}
use Rattle.certificates.specs.BlockChecks.{HaveKnownKeys}
use Rattle.certificates.proofs.checked_block.have_known_keys.Goals as goal

pub loop-entry-preserved : goal.loop-entry-preserved
loop-entry-preserved c =
    let committee = c.args.committee.now in
    let entries = c.entries-entry-items.result.now in
    let none : Endorsement = record { replica = 0; key = 0; signature = [] } in
    let k = c.loop-entry.entry-index in
    let known : (get_or entries k none).key < keys_of committee (get_or entries k none).replica = search rules in
    All-more (λ e. e.key < keys_of committee e.replica) entries k none c.loop-entry-test.true c.loop-entry.invariant known

pub returns : goal.returns
returns c =
    let committee = c.args.committee.now in
    let all : HaveKnownKeys committee c.args.certificate.now =
    subst (All (λ e. e.key < keys_of committee e.replica))
    (take_all c.loop-entry.entry-index c.entries-entry-items.result.now c.loop-entry-test.false ∙ c.entries-entry-items.ensures.value) c.loop-entry.invariant
    in
    (λ _. all, λ _. search rules)
