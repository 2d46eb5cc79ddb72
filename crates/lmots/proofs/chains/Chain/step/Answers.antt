use Rattle.std.proofs.Common.{◌≡◌, ◌++◌, ◌∷◌, [], ℕ, List, length, take, drop, set, arith, refl, ◌∙◌, ap}
use Rattle.std.proofs.lemmas.List.{length-set, take-set}
use Rattle.sha2.specs.Sha256.{sha256}
use Rattle.lmots.specs.Chains.{chain_step}
use Rattle.lmots.proofs.BlockLemmas.{numbered, valued}
use Rattle.lmots.proofs.chains.Chain.step.Goals as goal

pub returns : goal.returns
unfolding chain_step
returns c =
    let block = c.self.inside.block in
    let after = set block 22 c.args.j in
    let hash = c.finalize-value.result in
    let numbered_is = numbered block c.args.j c.self.told in
    let long : length after ≡ 55 = length-set block 22 c.args.j ∙ c.self.told in
    let kept : length c.put.new.bytes ≡ length after = omega (arith, long) in
    let hash_long : length hash ≡ 32 = omega arith in
    let written = valued after c.put.new.bytes hash long kept hash_long c.put.ensures.written in
    let hashed : hash ≡ sha256 (take 22 block ++ c.args.j ∷ [] ++ drop 23 block) =
    c.finalize-value.ensures _ (c.update.ensures _ c.new-hasher.ensures)
    ∙ ap (λ (m : List ℕ). sha256 m) (c.as_slice.ensures ∙ numbered_is) in
    let same : take 22 after ≡ take 22 block = take-set block 22 c.args.j in
    rw (← c.self.view_is) (rw (written.0, written.1, hashed, same) refl)
