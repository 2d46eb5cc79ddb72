use Rattle.std.proofs.Common.{◌-◌, List, drop, length, take, rules, sym, subst, ◌∙◌}
use Rattle.std.proofs.lemmas.List.{take_rest}
use Rattle.std.proofs.lemmas.List.Sorted.{IsPartitionPoint-from_clause}
use Rattle.std.specs.List.Sorted.{IsPartitionedBy}
use Rattle.std.specs.Ordering.{is_le, is_lt}
use Rattle.blocks.specs.Headers.{Header}
use Rattle.audit_commits.specs.Successors.{ParentsRise}
use Rattle.audit_commits.proofs.Between.{parted_below, parted_up_to}
use Rattle.audit_commits.proofs.Parents.{rank, ranks_rise, those_on_in}
use Rattle.audit_commits.proofs.by_parent.ByParent.on.Goals as goal

pub returns : goal.returns
returns c =
    let id = c.args.id.now in
    let hs : List Header = c.deref.result.now in
    let again : List Header = c.deref-2.result.now in
    let start = c.partition_point-start.result in
    let rest = take (length again - start) (drop start again) in
    let rise : ParentsRise hs = subst ParentsRise (sym c.deref.ensures.value) c.self.invariant in
    let rise_again : ParentsRise again = subst ParentsRise (sym c.deref-2.ensures.value) c.self.invariant in
    let second_part : IsPartitionedBy (λ h. is_le (rank id h)) rest =
    subst (IsPartitionedBy (λ h. is_le (rank id h))) (sym (take_rest again start)) (parted_up_to (rank id) again start (ranks_rise again id rise_again)) in
    let first = IsPartitionPoint-from_clause (λ (h : Header). is_lt (rank id h)) hs start c.partition_point-start.ensures.partitioned (parted_below (rank id) hs (ranks_rise hs id rise)) (λ a r q k. search rules) in
    let second = IsPartitionPoint-from_clause (λ (h : Header). is_le (rank id h)) rest c.partition_point-len.result c.partition_point-len.ensures.partitioned second_part (λ a r q k. search rules) in
    those_on_in c.args.self.now hs again rest id start c.partition_point-len.result (c.deref.ensures.value ∙ c.self.view_is) (c.deref-2.ensures.value ∙ c.self.view_is) (take_rest again start)
    (c.partition_point-start.ensures.bound, first) (c.partition_point-len.ensures.bound, second)
