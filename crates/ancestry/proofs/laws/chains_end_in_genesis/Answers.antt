use Rattle.ancestry.proofs.Walks.{genesis_linked, not_its_own}
use Rattle.ancestry.proofs.laws.chains_end_in_genesis.Goals as goal

pub returns-clause-linked : goal.returns-clause-linked
returns-clause-linked c known = genesis_linked known

pub returns-clause-none : goal.returns-clause-none
returns-clause-none c known id is l = not_its_own known id is l
