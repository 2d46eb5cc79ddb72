use Rattle.std.proofs.Common.{◌∙◌, refl}
use Rattle.std.proofs.lemmas.Simd.{get_or-replicate}
use Rattle.lmots.specs.Signatures.{signed_value}
use Rattle.lmots.proofs.WalkLemmas.{walked_between}
use Rattle.lmots.proofs.signatures.signed_values.Goals as goal

pub returns : goal.returns
unfolding signed_value
returns c i lt =
    c.ends.ensures i lt ∙ walked_between _ i 0 _ _ (get_or-replicate 34 i 0 0 lt) refl (c.chain_starts.ensures i lt)
