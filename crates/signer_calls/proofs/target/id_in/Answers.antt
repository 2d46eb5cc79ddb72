use Rattle.std.proofs.Common.{◌≡◌, ◌∙◌, IsOk, ap, refl, rules, sym}
use Rattle.hex.specs.Hex.{encode_lower}
use Rattle.signer_calls.proofs.Ids.{bytes_read, id_again}
use Rattle.signer_calls.proofs.target.id_in.Goals as goal

pub returns-then-is_err : goal.returns-then-is_err
returns-then-is_err c = λ id is_id printed.
    let again = id_again _ id _ _ is_id printed c.decode_to_slice.ensures.value in
    let read = again.0 in
    let failed = c.if-is_err in
    search rules

pub returns-then-not-is_same : goal.returns-then-not-is_same
returns-then-not-is_same c = λ id is_id printed.
    let again = id_again _ id _ _ is_id printed c.decode_to_slice.ensures.value in
    let same = c.id_digits.ensures ∙ ap encode_lower again.1 ∙ sym printed in
    search rules

pub returns : goal.returns
returns c =
    let printed : c.args.digits.now ≡ encode_lower c.decode_to_slice.new.out = search rules in
    let read : IsOk c.decode_to_slice.result = search rules in
    ((search rules, bytes_read c.args.digits.now _ _ _ refl read c.decode_to_slice.ensures.value), printed)
