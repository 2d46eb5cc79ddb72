use Rattle.std.proofs.Common.{◌∙◌}
use Rattle.std.proofs.lemmas.Simd.{get_or-replicate}
use Rattle.lmots.specs.Chains.{chain_end}
use Rattle.lmots.proofs.WalkLemmas.{walked_between}
use Rattle.lmots.proofs.keys.chain_ends.Goals as goal

pub returns : goal.returns
unfolding chain_end
returns c i lt =
    c.ends.ensures i lt
    ∙ walked_between _ i 0 255 _ (get_or-replicate 34 i 0 0 lt) (get_or-replicate 34 i 255 0 lt) (c.chain_starts.ensures i lt)
