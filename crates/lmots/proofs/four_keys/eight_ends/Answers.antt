use Rattle.std.proofs.Common.{ℕ, [], refl, ◌∙◌}
use Rattle.std.proofs.lemmas.List.{get_or-replicate}
use Rattle.lmots.specs.Chains.{chain_end}
use Rattle.lmots.specs.FourKeys.{chain_end_of, prefix_of}
use Rattle.lmots.proofs.FourKeyLemmas.{private_is_step}
use Rattle.lmots.proofs.four_keys.eight_ends.Goals as goal

pub returns : goal.returns
unfolding chain_end chain_end_of prefix_of
returns c l lt =
    let secret = c.args.secret.now in
    c.walk_eight.ensures l lt
    ∙ rw (
      get_or-replicate {A = ℕ} 8 l 0 0 lt,
      c.walk_eight-starts.ensures l lt,
      get_or-replicate {A = ℕ} 8 l 255 0 lt,
      get_or-replicate 8 l secret.seed [] lt,
      c.eight_prefixes-prefixes.ensures l lt,
      private_is_step,
    ) refl
