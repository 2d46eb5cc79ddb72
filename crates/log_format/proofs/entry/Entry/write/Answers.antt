use Rattle.std.proofs.Common.{◌≡◌, ◌<◌, ◌≤◌, ◌++◌, ◌∷◌, [], List, ℕ, length, ap, subst, sym, ◌∙◌}
use Rattle.blocks.specs.Headers.{header_text}
use Rattle.log_format.specs.EntryText.{Entry, IsEntry, entry_text}
use Rattle.log_format.proofs.EntryLaws.{length-entry_text, written}
use Rattle.log_format.proofs.entry.Entry.write.Goals as goal

pub returns-clause-text : goal.returns-clause-text
returns-clause-text c =
    let e : Entry = record { block = c.self.inside.block; parent = c.self.inside.parent; own = c.self.inside.own; certificate = c.self.inside.certificate } in
    let first = c.append.new.text.items in
    let second = c.append-2.new.text.items in
    let third = c.append-3.new.text.items in
    let fourth = c.put_own_vote.new.text.items in
    let made : c.append-4.new.text.items ≡ entry_text e =
    written e c.new-text.result.items first second third fourth c.append-4.new.text.items c.new-text.ensures.items
    (c.in_ok-append.ensures.ok ∙ ap (λ (k : ℕ). c.new-text.result.items ++ k ∷ []) c.entry_kind.ensures)
    (c.in_ok-append-2.ensures.ok ∙ ap (λ (t : List ℕ). first ++ t) (c.to_bytes.ensures.text ∙ ap header_text c.header.ensures))
    (c.in_ok-append-3.ensures.ok ∙ ap (λ (t : List ℕ). second ++ t) c.to_bytes-2.ensures.text)
    c.in_ok-put_own_vote.ensures
    (c.in_ok-append-4.ensures.ok ∙ ap (λ (t : List ℕ). fourth ++ t) (c.deref.ensures.value ∙ c.in_ok-certificate.ensures.text)) in
    made ∙ ap entry_text c.self.view_is

pub returns-clause-spells : goal.returns-clause-spells
returns-clause-spells c = record { entry = subst IsEntry c.self.view_is c.self.invariant; text = returns-clause-text c }

pub returns-clause-size : goal.returns-clause-size
returns-clause-size c =
    subst (λ (t : List ℕ). (0 < length t) × (length t ≤ 46809)) (sym (returns-clause-text c))
    (length-entry_text c.args.self.now (subst IsEntry c.self.view_is c.self.invariant))
