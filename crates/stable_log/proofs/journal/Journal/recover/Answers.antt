use Rattle.std.proofs.Common.{sym, ◌∙◌}
use Rattle.stable_log.proofs.Told.{some_if}
use Rattle.stable_log.proofs.ReadingLemmas.{journal_read, stands_read, only_read}
use Rattle.stable_log.proofs.journal.Journal.recover.Goals as goal

pub invariant_of-result : goal.invariant_of-result
invariant_of-result g c =
    journal_read (g.D.Disk.bytes c.read_journal.new.disk) (g.D.Disk.images c.read_journal.new.disk) c.in-Ok.places.items c.in-Ok.gate_at c.in-Ok.ensures.placed
    (λ bs is. c.in-Ok.ensures.told bs (sym c.read_journal.ensures.unwritten.same ∙ is))

pub returns-in-Ok-clause-ok : goal.returns-in-Ok-clause-ok
returns-in-Ok-clause-ok g c =
    let same = c.read_journal.ensures.unwritten.same in
    some_if (g.D.Disk.bytes c.args.disk) _ (λ bs is.
    stands_read (g.D.Disk.bytes c.read_journal.new.disk) (g.D.Disk.images c.read_journal.new.disk) c.in-Ok.places.items c.in-Ok.gate_at c.in-Ok.ensures.placed (λ f at. c.in-Ok.ensures.told f (sym same ∙ at)) bs (same ∙ is))

pub returns-in-Ok-clause-only : goal.returns-in-Ok-clause-only
returns-in-Ok-clause-only g c =
    let same = c.read_journal.ensures.unwritten.same in
    some_if (g.D.Disk.bytes c.args.disk) _ (λ bs is.
    let t = c.in-Ok.ensures.told bs is in
    only_read (g.D.Disk.bytes c.read_journal.new.disk) c.in-Ok.places.items c.in-Ok.gate_at bs (same ∙ is) t.0 t.1)
