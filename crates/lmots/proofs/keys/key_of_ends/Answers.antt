use Rattle.std.proofs.Common.{◌∙◌}
use Rattle.lmots.specs.Chains.{chain_end, end_in}
use Rattle.lmots.proofs.SignedVerifies.{key-same}
use Rattle.lmots.proofs.keys.key_of_ends.Goals as goal

pub returns-clause-of_seed : goal.returns-clause-of_seed
returns-clause-of_seed c = λ seed are.
    c.hash_of_ends.ensures ∙ key-same c.args.key_id.now c.args.q (end_in c.args.ends.now) (chain_end c.args.key_id.now seed c.args.q) are
