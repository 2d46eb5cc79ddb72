use Rattle.std.proofs.Common.{ℕ, List, length, drop, arith, ◌∙◌, ap, ◌≤◌}
use Rattle.std.proofs.lemmas.List.{length-drop, take_all}
use Rattle.lmots.proofs.chains.Chain.value.Goals as goal

pub returns : goal.returns
returns c =
    let whole : length (drop 23 c.self.inside.block) ≤ 32 = omega (arith, length-drop 23 c.self.inside.block) in
    c.array_at.ensures ∙ take_all 32 (drop 23 c.self.inside.block) whole ∙ ap (λ (chain : List ℕ × List ℕ). chain.1) c.self.view_is
