use Rattle.std.proofs.Common.{arith, rules}
use Rattle.signer_calls.proofs.Pairs.{pair_read, too_short}
use Rattle.signer_calls.proofs.pair.file_in.Goals as goal

pub returns-then-body-length : goal.returns-then-body-length
returns-then-body-length c = too_short _ _ (search rules) c.if-body-length.true

pub returns : goal.returns
returns c =
    let begun = c.if-body-lt-RENEWAL_AT.false in
    let room = c.if-body-length.false in
    (omega arith, omega (arith, begun, room), pair_read _ _ (λ i. search rules) (search rules) begun room)
