use Rattle.std.proofs.Common.{[], refl, subst, sym, inr}
use Rattle.blocks.specs.Headers.{Header}
use Rattle.std.proofs.lemmas.List.{append-nil}
use Rattle.log_format.specs.EntryReading.{entry_refusal_number}
use Rattle.program_show.specs.Entries.{AddsOnly, IsBlockText}
use Rattle.program_show.specs.Lines.{refused_entry_line}
use Rattle.program_show.specs.Names.{entry_refusal_name}
use Rattle.program_show.proofs.EntryLines.{entry_and_block, failed_first}
use Rattle.program_show.proofs.Longer.{both_ok, on_ok}
use Rattle.program_show.proofs.entry.put_payload.Goals as goal

pub returns-in-Err : goal.returns-in-Err
returns-in-Err c =
    let refusal = c.in-Err.refusal in
    both_ok c.put_refusal.result _ _ _ c.put_refusal.ensures.text c.put_refusal.ensures.not_memory (λ text other. (
      refused_entry_line c.args.k (entry_refusal_number refusal) (entry_refusal_name refusal),
      [],
      inr (record { refusal = refusal; first = failed_first c.args.payload.now refusal other c.in-Err.ensures.first_refusal; text_is = refl; none = refl }),
      text,
      sym (append-nil c.args.marks.now.items),
    ))

pub returns-in_ok-put_entry-in-Ok : goal.returns-in_ok-put_entry-in-Ok
returns-in_ok-put_entry-in-Ok c =
    let t1 = c.put_entry.new.text.items in
    let t2 = c.put_block.new.text.items in
    on_ok c.put_block.result _ _ c.put_block.ensures (λ more.
    entry_and_block c.args.committee.now c.args.k c.args.payload.now c.in-Ok.entry c.args.text.now.items t1 t2 c.args.marks.now.items c.put_entry.new.marks.items
    c.in-Ok.ensures.found c.in_ok-put_entry-in-Ok.ensures (subst (λ (b : Header). AddsOnly t1 t2 (IsBlockText b)) c.block.ensures.value more))
