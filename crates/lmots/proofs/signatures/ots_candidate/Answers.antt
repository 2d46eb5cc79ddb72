use Rattle.std.proofs.Common.{◌∙◌, refl}
use Rattle.lmots.specs.Signatures.{candidate_key}
use Rattle.lmots.proofs.SignedVerifies.{key-same}
use Rattle.lmots.proofs.signatures.ots_candidate.Goals as goal

pub returns-clause-ok : goal.returns-clause-ok
unfolding candidate_key
returns-clause-ok c =
    c.key_of_ends.ensures.value ∙ key-same c.args.key_id.now c.args.q _ _ c.continued-ends.ensures
    ∙ rw (c.coefficients-coefficients.ensures, c.message_hash.ensures, c.array_at-randomizer.ensures) refl
