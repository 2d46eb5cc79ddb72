use Rattle.blocks.proofs.Chains.{one_chain}
use Rattle.blocks.proofs.laws.a_block_has_one_chain.Goals as goal

pub returns : goal.returns
returns c = one_chain
