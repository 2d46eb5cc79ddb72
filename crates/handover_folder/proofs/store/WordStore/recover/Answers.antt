use Rattle.handover_folder.specs.State.{said_in}
use Rattle.handover_folder.proofs.Recovered.{recovered_only}
use Rattle.handover_folder.proofs.store.WordStore.recover.Goals as goal

pub returns-in-Ok-read_words-clause-only : goal.returns-in-Ok-read_words-clause-only
returns-in-Ok-read_words-clause-only g c =
    let read = c.in-Ok-read_words.ensures in
    recovered_only (g.D.Disk.bytes c.args.disk) (g.D.Disk.bytes c.in-Ok.journal.disk) c.in-Ok.journal.payloads (said_in c.in-Ok-read_words.said) c.in-Ok.ensures.same.same c.in-Ok.ensures.ok read.ok read.whole
