use Rattle.ancestry.proofs.Walks.{chain_with}
use Rattle.ancestry.proofs.laws.genesis_may_stand_among_the_headers.Goals as goal

pub returns : goal.returns
returns c hs genesis b ps there = chain_with hs genesis b ps there
