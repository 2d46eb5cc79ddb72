use Rattle.std.proofs.Common.{◌≡◌, ◌+◌, ◌*◌, ◌++◌, [], take, length, slice_index_or}
use Rattle.byteorder.specs.Endian.{big_bytes}
use Rattle.lmots.specs.Chains.{joined}
use Rattle.lmots.specs.Signatures.{randomizer}
use Rattle.lmots.proofs.signatures.ots_sign.Given as goal

abbrev pub invariant-loop-i : goal.invariant-loop-i
invariant-loop-i l = (length l.signature ≡ 1124)
    × (take (36 + 32 * l.i) l.signature ≡ big_bytes 4 4 ++ randomizer l.secret.key_id l.secret.seed l.q
    ++ joined (λ k. slice_index_or l.values k []) l.i)
