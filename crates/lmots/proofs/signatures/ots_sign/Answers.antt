use Rattle.std.proofs.Common.{◌≡◌, ◌≤◌, ◌+◌, ◌*◌, [], length, slice_index_or, arith}
use Rattle.base_wire.proofs.Numbers.{filled}
use Rattle.lmots.specs.Signatures.{ots_signature, randomizer}
use Rattle.lmots.proofs.JoinedLemmas.{joined-same}
use Rattle.lmots.proofs.SignedVerifies.{IsOtsSignature-ots_signature, signed_verifies}
use Rattle.lmots.proofs.signatures.ots_sign.Goals as goal

is_signature : (c : goal.After-loop-i) → c.loop-i.signature ≡ ots_signature c.args.secret.now.key_id c.args.secret.now.seed c.args.q c.args.message.now
unfolding ots_signature randomizer
is_signature c =
    let done : c.loop-i.i ≡ 34 = omega arith in
    let long : length c.loop-i.signature ≤ 36 + 32 * 34 = omega arith in
    let values = joined-same (λ k. slice_index_or c.signed_values-values.result k []) _ 34 c.signed_values-values.ensures in
    filled (36 + 32 * 34) _ _ long
    (rw (done, values, c.coefficients-coefficients.ensures, c.message_hash.ensures, c.ots_private-randomizer.ensures) at c.loop-i.invariant.1)

pub returns : goal.returns
returns c =
    let id = c.args.secret.now.key_id in
    let seed = c.args.secret.now.seed in
    record {
      exact = is_signature c;
      well_formed = rw (is_signature c) (IsOtsSignature-ots_signature id seed c.args.q c.args.message.now);
      verifies = rw (is_signature c) (signed_verifies id seed c.args.q c.args.message.now);
    }
