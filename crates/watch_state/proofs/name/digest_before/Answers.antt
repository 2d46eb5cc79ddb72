use Rattle.std.proofs.Common.{◌∙◌, ℕ, List, Some, ap, rules}
use Rattle.watch_state.proofs.Naming.{digest_again, digits_first, digits_fit, not_read}
use Rattle.watch_state.proofs.name.digest_before.Goals as goal

pub returns-in_err-get : goal.returns-in_err-get
returns-in_err-get c = λ front rest is spelled.
    let long = digits_fit _ front rest is spelled in
    let short = c.in_err-get.ensures.lookup in
    absurd (search (rules, long, short))

pub returns-in_err-ok : goal.returns-in_err-ok
returns-in_err-ok c = λ front rest is spelled.
    let digits = c.in_ok-get.ensures.lookup.0.2 ∙ digits_first _ front rest is spelled in
    let again = digest_again _ front _ _ is digits c.decode_to_slice.ensures.value in
    absurd (not_read _ c.in_err-ok.ensures.variant again.0)

pub returns : goal.returns
returns c = λ front rest is spelled.
    let digits = c.in_ok-get.ensures.lookup.0.2 ∙ digits_first _ front rest is spelled in
    let again = digest_again _ front _ _ is digits c.decode_to_slice.ensures.value in
    ap (λ (f : List ℕ). Some f) again.1
