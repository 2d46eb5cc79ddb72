use Rattle.std.proofs.Common.{◌++◌, ◌∷◌, [], ℕ, List, ap, ◌∙◌}
use Rattle.std.specs.Prelude.{replicate}
use Rattle.std.proofs.lemmas.List.{append_assoc}
use Rattle.blocks.proofs.CommitteeLaws.{same_more}
use Rattle.blocks.proofs.committee.put_zeros.Goals as goal

pub loop-k-preserved : goal.loop-k-preserved
loop-k-preserved c =
    let k = c.loop-k._k in
    let old = c.args.text.now.items in
    c.in_ok-push.ensures.items ∙ ap (λ (t : List ℕ). t ++ 0 ∷ []) c.loop-k.invariant
    ∙ append_assoc old (replicate k 0) (0 ∷ []) ∙ ap (λ (t : List ℕ). old ++ t) (same_more 0 k)
