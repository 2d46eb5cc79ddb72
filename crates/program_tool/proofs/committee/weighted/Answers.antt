use Rattle.std.proofs.Common.{◌≡◌, ◌+◌, ◌++◌, ◌∷◌, [], List, rules, sym, subst, take}
use Rattle.std.specs.List.{AllZip}
use Rattle.blocks.specs.Committees.{Member}
use Rattle.audit_evidence.proofs.Gatherings.{zip_more}
use Rattle.program_words.specs.declared.command.WeightedReplica.{WeightedReplica}
use Rattle.program_tool.specs.Lines.{IsMemberOf}
use Rattle.program_tool.proofs.committee.weighted.Goals as goal

pub loop-replica-preserved : goal.loop-replica-preserved
loop-replica-preserved g c =
    let i = c.loop-replica.replica-index in
    let member = c.in_ok-read_member.field-0 in
    let pushed : c.push.new.self.items ≡ c.loop-replica.members.items ++ member ∷ [] = search rules in
    subst (λ (ms : List Member). AllZip IsMemberOf (take (i + 1) c.args.replicas.now) ms) (sym pushed)
    (zip_more IsMemberOf c.args.replicas.now c.loop-replica.members.items i c.replica-item.result member c.loop-replica-test.true c.loop-replica.invariant
    (subst (λ (r : WeightedReplica). IsMemberOf r member) c.replica-item.is c.in_ok-read_member.ensures.member))
