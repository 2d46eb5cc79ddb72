use Rattle.std.proofs.Common.{◌-◌, List, take, drop, length, ltb, leb, rules, sym, subst}
use Rattle.std.specs.List.{AllPairs}
use Rattle.std.proofs.lemmas.List.{take_rest}
use Rattle.std.proofs.lemmas.List.Sorted.{IsNonDecreasingBy-drop, IsNonDecreasingBy-take, IsPartitionPoint-from_clause, IsPartitionedBy-leb, IsPartitionedBy-ltb}
use Rattle.certificates.specs.declared.vote.SignedVote.{SignedVote}
use Rattle.certificates.specs.VoteOrder.{IsLowerVote}
use Rattle.culprit_search.proofs.VotesInOrder.{own_votes_in, parts_below, parts_up_to, replica_of, replicas_rise}
use Rattle.culprit_search.proofs.pairs.own_votes.Goals as goal

pub returns : goal.returns
returns c =
    let e = c.args.evidence.now in
    let r = c.args.replica in
    let vs = c.votes-votes.result.now in
    let start = c.partition_point-start.result in
    let rest = take (length vs - start) (drop start vs) in
    let same = c.votes-votes.ensures.value in
    let rising = c.votes-votes.ensures.is_evidence.votes_rise in
    let rising_here = subst (λ (l : List SignedVote). AllPairs IsLowerVote l) (sym same) rising in
    let up = replicas_rise vs rising_here in
    let first =
    IsPartitionPoint-from_clause (λ (v : SignedVote). ltb v.replica r) vs start c.partition_point-start.ensures.partitioned (IsPartitionedBy-ltb replica_of vs r up) (λ a b q k. search rules)
    in
    let second =
    IsPartitionPoint-from_clause (λ (v : SignedVote). leb v.replica r) rest c.partition_point-len.result c.partition_point-len.ensures.partitioned
    (IsPartitionedBy-leb replica_of rest r (IsNonDecreasingBy-take replica_of (length vs - start) (drop start vs) (IsNonDecreasingBy-drop replica_of start vs up))) (λ a b q k. search rules)
    in
    own_votes_in e r start c.partition_point-len.result vs rest same (take_rest vs start) rising (parts_below replica_of vs start r c.partition_point-start.ensures.bound first)
    (parts_up_to replica_of rest c.partition_point-len.result r c.partition_point-len.ensures.bound second)
