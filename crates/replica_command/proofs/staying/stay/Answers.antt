use Rattle.std.proofs.Common.{◌≡◌, ℕ, List, length, rules, subst, take}
use Rattle.std.specs.Prelude.{map}
use Rattle.base_streams.specs.Streams.{Wrote}
use Rattle.replica_command.specs.StayText.{IsPrinted, closed_line}
use Rattle.replica_command.specs.declared.worker.Done.{Done}
use Rattle.replica_command.specs.declared.worker.Work.{Work}
use Rattle.replica_command.proofs.Gathering.{stay_printed}
use Rattle.replica_command.proofs.staying.stay.Goals as goal

pub returns-clause-printed : goal.returns-clause-printed
returns-clause-printed g c =
    let asked_of = λ (w : Work g.row.N.Denot g.N.DeskNaming). w.requests.items in
    let answered_of = λ (d : Done g.row.N.Denot g.N.DeskNaming). d.outcomes.items in
    let receipts_in = λ (d : Done g.row.N.Denot g.N.DeskNaming). d.session.receipts.items in
    let before = g.W.Sink.text c.args.out.now in
    let mid = g.W.Sink.text c.print_outcomes.new.out in
    let after = g.W.Sink.text c.print_count.new.out in
    let done = c.in_ok-done.done.items in
    let count = c.len-count.result in
    let closed = c.in_ok-closed.closed in
    let ending = c.in_ok-ending.ending in
    let many : count ≡ length c.args.requests.items = search rules in
    let opened = c.count-opened.result in
    let steps = closed.parts.log.steps in
    let counted : length g.N.DeskNaming.opening ≡ opened = search rules in
    let begins = subst (λ (n : ℕ). g.N.DeskNaming.opening ≡ take n steps) counted c.in_ok-closed.ensures.begins in
    stay_printed g.D.Disk g.N.DeskNaming.committee g.N.DeskNaming.replica g.N.DeskNaming.opening c.args.requests.items closed.receipts.items asked_of answered_of receipts_in before mid after c.in_ok-work.work.items
    done count opened steps ending many begins c.in_ok-work.ensures c.in_ok-done.ensures
    (subst (λ (ds : List (Done g.row.N.Denot g.N.DeskNaming)). IsPrinted before mid (map answered_of ds) count ending) c.deref.ensures.value c.in_ok-ending.ensures.printed)
    c.in_ok-closed.ensures.receipts (subst (λ (n : ℕ). Wrote mid after (closed_line n)) c.count.ensures.value c.in_ok-print_count.ensures.printed)
