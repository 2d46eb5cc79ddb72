use Rattle.std.proofs.Common.{◌-◌, List, drop, length, take, rules, sym, subst, ◌∙◌}
use Rattle.std.proofs.lemmas.List.{take_rest}
use Rattle.std.proofs.lemmas.List.Sorted.{IsPartitionPoint-from_clause}
use Rattle.std.specs.List.Sorted.{IsPartitionedBy}
use Rattle.std.specs.Ordering.{is_le, is_lt}
use Rattle.blocks.specs.Headers.{header_id}
use Rattle.audit_commits.specs.Casts.{CastsRise}
use Rattle.audit_commits.specs.declared.by_ballot.Cast.{Cast}
use Rattle.audit_commits.proofs.Ballots.{Key, cast_rank, casts_on_in, casts_rise}
use Rattle.audit_commits.proofs.Between.{parted_below, parted_up_to}
use Rattle.audit_commits.proofs.by_ballot.ByBallot.on.Goals as goal

pub returns : goal.returns
returns c =
    let view = c.args.block.now.view in
    let id = header_id c.args.block.now in
    let key : Key = (view, id) in
    let cs : List Cast = c.deref.result.now in
    let again : List Cast = c.deref-2.result.now in
    let start = c.partition_point-start.result in
    let rest = take (length again - start) (drop start again) in
    let rise : CastsRise cs = subst CastsRise (sym c.deref.ensures.value) c.self.invariant in
    let rise_again : CastsRise again = subst CastsRise (sym c.deref-2.ensures.value) c.self.invariant in
    let second_part : IsPartitionedBy (λ x. is_le (cast_rank key x)) rest =
    subst (IsPartitionedBy (λ x. is_le (cast_rank key x))) (sym (take_rest again start)) (parted_up_to (cast_rank key) again start (casts_rise again key rise_again)) in
    let first = IsPartitionPoint-from_clause (λ (x : Cast). is_lt (cast_rank key x)) cs start c.partition_point-start.ensures.partitioned (parted_below (cast_rank key) cs (casts_rise cs key rise)) (λ a r q k. search rules) in
    let second = IsPartitionPoint-from_clause (λ (x : Cast). is_le (cast_rank key x)) rest c.partition_point-len.result c.partition_point-len.ensures.partitioned second_part (λ a r q k. search rules) in
    casts_on_in c.args.self.now cs again rest view id start c.partition_point-len.result (c.deref.ensures.value ∙ c.self.view_is) (c.deref-2.ensures.value ∙ c.self.view_is) (take_rest again start)
    (c.partition_point-start.ensures.bound, first) (c.partition_point-len.ensures.bound, second)
