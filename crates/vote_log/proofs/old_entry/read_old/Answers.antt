use Rattle.std.proofs.Common.{List, ℕ, rules, subst, ◌∙◌}
use Rattle.stable_log.proofs.Told.{if_some}
use Rattle.log_format.specs.EntryText.{Entry, IsEntryOf}
use Rattle.vote_log.proofs.Renewed.{old_renewed, renewed_old}
use Rattle.vote_log.proofs.old_entry.read_old.Goals as goal

pub returns-in_default-clause-only : goal.returns-in_default-clause-only
returns-in_default-clause-only c = λ none e is. c.in_ok-text.ensures.none c.in_default.is (old_renewed c.args.bytes.now e is).0

pub returns-in-Ok-clause-found : goal.returns-in-Ok-clause-found
returns-in-Ok-clause-found c =
    let e = c.in-Ok.entry in
    let some = if_some c.in_ok-text.field-0 _ c.in-Some.text c.in_ok-text.ensures.some c.in-Some.is in
    renewed_old c.args.bytes.now e some.0 (subst (λ (t : List ℕ). IsEntryOf t e) (c.deref.ensures.value ∙ some.1) c.in-Ok.ensures.found)

pub returns : goal.returns
returns c =
    let bytes = c.args.bytes.now in
    let some = if_some c.in_ok-text.field-0 _ c.in-Some.text c.in_ok-text.ensures.some c.in-Some.is in
    let none : (e : Entry) → IsEntryOf c.deref.result.now e → ⊥ = search rules in
    record {
      found = tt;
      only = λ no e is. none e (record { entry = is.old.entry; text = c.deref.ensures.value ∙ some.1 ∙ (old_renewed bytes e is).1 });
      refused = tt;
    }
