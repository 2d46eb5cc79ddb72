use Rattle.std.proofs.Common.{◌++◌, ◌∷◌, [], List, ℕ, rules, drop, ap, ◌∙◌}
use Rattle.vote_log.specs.Renewing.{IsOldWhole, old_place, renewed_certificate}
use Rattle.vote_log.proofs.Renewed.{entry_put, rest_from}
use Rattle.vote_log.proofs.old_entry.renewed.Goals as goal

pub returns-clause-some : goal.returns-clause-some
returns-clause-some c =
    let bytes = c.args.bytes.now in
    let voted = c.in-Some.voted in
    let some = c.in-Some.ensures.some in
    let first = c.append.new.text.items in
    let second = c.append-2.new.text.items in
    let third = c.put_own_vote.new.text.items in
    let whole : IsOldWhole (drop (old_place voted) bytes) = search rules in (
      record { kind = some.1; whole = rw some.0 whole },
      entry_put bytes c.new-text.result.items first second third c.put_certificate.new.text.items voted some.0 c.new-text.ensures.items
          (c.in_ok-append.ensures.ok ∙ ap (λ (k : ℕ). c.new-text.result.items ++ k ∷ []) c.kind_of.ensures)
          c.in_ok-append-2.ensures.ok c.in_ok-put_own_vote.ensures
          (c.in_ok-put_certificate.ensures ∙ ap (λ (t : List ℕ). third ++ renewed_certificate t) (rest_from bytes c.certificate_place-at.result)
          ∙ ap (λ (at : ℕ). third ++ renewed_certificate (drop at bytes)) c.certificate_place-at.ensures),
    )
