use Rattle.std.proofs.Common.{◌∙◌, refl}
use Rattle.std.proofs.lemmas.Simd.{get_or-replicate}
use Rattle.lmots.specs.Signatures.{continued}
use Rattle.lmots.proofs.WalkLemmas.{walked_between}
use Rattle.lmots.proofs.signatures.continued.Goals as goal

pub returns : goal.returns
unfolding continued
returns c i lt =
    c.ends.ensures i lt ∙ walked_between _ i _ 255 _ refl (get_or-replicate 34 i 255 0 lt) (c.shown_values.ensures i lt)
