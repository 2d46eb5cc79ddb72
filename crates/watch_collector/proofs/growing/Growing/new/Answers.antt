use Rattle.std.proofs.Common.{◌∙◌, ℕ, List, refl, sym, subst}
use Rattle.std.specs.List.{Contains}
use Rattle.blocks.specs.Genesis.{genesis_of}
use Rattle.audit_evidence.proofs.Gatherings.{only_one}
use Rattle.watch_collector.proofs.Judging.{judged_first}
use Rattle.watch_collector.proofs.growing.Growing.new.Goals as goal

pub invariant_of-result : goal.invariant_of-result
invariant_of-result c =
    let there = (only_one c.new-headers.result c.insert.new.self c.in_ok-new.field-0 (genesis_of c.args.committee.now) c.new-headers.ensures (c.in_ok-new.ensures ∙ c.of.ensures ∙ c.genesis.ensures.value) c.in_ok-insert.ensures.ok (genesis_of c.args.committee.now)).1 refl in
    judged_first c.again.result c.insert.new.self c.new-2.result c.new-3.result
    (subst (λ (k : List ℕ). Contains c.insert.new.self (genesis_of k)) (sym c.again.ensures.same) there) c.new-2.ensures c.new-3.ensures

pub returns-clause-headers : goal.returns-clause-headers
returns-clause-headers c = only_one c.new-headers.result c.insert.new.self c.in_ok-new.field-0 (genesis_of c.args.committee.now) c.new-headers.ensures (c.in_ok-new.ensures ∙ c.of.ensures ∙ c.genesis.ensures.value) c.in_ok-insert.ensures.ok
