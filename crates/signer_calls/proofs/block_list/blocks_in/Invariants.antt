use Rattle.std.proofs.Common.{length}
use Rattle.signer_calls.proofs.BlockLists.{AreRead}
use Rattle.signer_calls.proofs.block_list.blocks_in.Given as goal

abbrev pub invariant-loop-all : goal.invariant-loop-all
invariant-loop-all l = AreRead l.body l.all.items l.left

abbrev pub decreases-loop-all : goal.decreases-loop-all
decreases-loop-all l = length l.left
