use Rattle.std.specs.Prelude.{option_copied}
use Rattle.signer_calls.proofs.Parameters.{of_payload}
use Rattle.signer_calls.proofs.query.names_payload.Goals as goal

pub returns-in-Some : goal.returns-in-Some
returns-in-Some c =
    let named = c.in-Some.named in
    let is = c.in-Some.ensures in
    let of = c.is_of_payload.ensures in
    (λ yes. (named, is, of.0 yes), λ some. of.1 (of_payload (option_copied c.args.query) named is some))
