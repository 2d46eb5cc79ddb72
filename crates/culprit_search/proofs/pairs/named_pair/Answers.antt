use Rattle.culprit_search.proofs.Screens.{by_one}
use Rattle.culprit_search.proofs.VotePairs.{named_or_none}
use Rattle.culprit_search.proofs.pairs.named_pair.Goals as goal

pub least_pair-requires-clause-by_one : goal.least_pair-requires-clause-by_one
least_pair-requires-clause-by_one c = by_one c.args.evidence.now c.args.replica c.own_votes.result.now c.own_votes.ensures

pub returns : goal.returns
returns c = named_or_none c.args.evidence.now c.args.replica c.own_votes.result.now c.least_pair.result c.own_votes.ensures c.least_pair.ensures
