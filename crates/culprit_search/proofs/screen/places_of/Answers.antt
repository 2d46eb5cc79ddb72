use Rattle.std.proofs.Common.{leb, ltb, rules}
use Rattle.std.proofs.lemmas.List.Sorted.{IsPartitionPoint-from_clause, IsPartitionedBy-leb, IsPartitionedBy-ltb}
use Rattle.certificates.specs.declared.vote.SignedVote.{SignedVote}
use Rattle.culprit_search.proofs.Screens.{stand_between, views_rise}
use Rattle.culprit_search.proofs.VotesInOrder.{parts_below, parts_up_to, view_of}
use Rattle.culprit_search.proofs.screen.places_of.Goals as goal

pub returns : goal.returns
returns c =
    let own = c.args.own.now in
    let view = c.args.view in
    let start = c.partition_point-start.result in
    let end = c.partition_point-end.result in
    let up = views_rise own c.requires.rising c.requires.by_one in
    let first =
    IsPartitionPoint-from_clause (λ (v : SignedVote). ltb v.view view) own start c.partition_point-start.ensures.partitioned (IsPartitionedBy-ltb view_of own view up) (λ a b q k. search rules)
    in
    let last =
    IsPartitionPoint-from_clause (λ (v : SignedVote). leb v.view view) own end c.partition_point-end.ensures.partitioned (IsPartitionedBy-leb view_of own view up) (λ a b q k. search rules)
    in
    stand_between own view start end (parts_below view_of own start view c.partition_point-start.ensures.bound first) (parts_up_to view_of own end view c.partition_point-end.ensures.bound last)
