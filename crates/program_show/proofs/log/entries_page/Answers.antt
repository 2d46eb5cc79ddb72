use Rattle.std.proofs.Common.{◌++◌, List, ℕ, length, ap, ◌∙◌}
use Rattle.program_show.specs.Lines.{journal_line, old_form_line}
use Rattle.program_show.proofs.LogTexts.{log_is}
use Rattle.program_show.proofs.log.entries_page.Goals as goal

pub returns-clause-text : goal.returns-clause-text
returns-clause-text c =
    let payloads = c.args.journal.payloads in
    let t2 = c.put_entries.new.text.items in
    let old = c.in_ok-put_old_journal.ensures ∙ ap (λ (ps : List (List ℕ)). t2 ++ old_form_line ps) c.in_ok-put_entries.ensures.same in
    let front = c.in_ok-put_journal.ensures ∙ ap (λ (n : ℕ). c.new-text.result.items ++ journal_line n) c.count.ensures.value in
    log_is c.args.committee.now (journal_line (length payloads)) payloads c.new-text.result.items c.put_journal.new.text.items t2
    c.put_old_journal.new.text.items c.put_count.new.text.items c.new-marks.result.items c.put_entries.new.marks.items c.deref.result.now
    c.new-text.ensures.items c.new-marks.ensures.items front c.in_ok-put_entries.ensures.text old c.deref.ensures.value c.in_ok-put_count.ensures
