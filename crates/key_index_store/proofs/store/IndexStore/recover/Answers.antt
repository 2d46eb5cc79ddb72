use Rattle.key_index_store.specs.Indices.{limit_of}
use Rattle.key_index_store.proofs.Recovered.{journal_refusal, read_refusal, not_again, leaves, store_read}
use Rattle.key_index_store.proofs.store.IndexStore.recover.Goals as goal

pub returns-in-Err-clause-first_refusal : goal.returns-in-Err-clause-first_refusal
returns-in-Err-clause-first_refusal g c = rw c.from.ensures (journal_refusal (limit_of c.args.keys) (g.D.Disk.bytes c.args.disk) c.in-Err.refusal c.in-Err.ensures.first_refusal)

pub invariant_of-result : goal.invariant_of-result
invariant_of-result g c =
    let d = c.in-Ok.journal.disk in
    let read = c.in-Ok-read_reservations.ensures in
    store_read c.args.keys (g.D.Disk.bytes c.args.disk) (g.D.Disk.bytes d) c.in-Ok.journal.payloads c.in-Ok-read_reservations.count c.in-Ok.ensures.same.same c.in-Ok.ensures.ok read.ok (g.D.Disk.images d) c.in-Ok.ensures.durable read.counted.1
    (g.D.Disk.bytes c.read_reservations.new.journal.disk) (g.D.Disk.images c.read_reservations.new.journal.disk) c.read_reservations.new.journal.payloads read.same.2.same read.same.0 read.counted.0 c.requires read.same.2.no_new

pub returns-in-Ok-read_reservations-clause-not_again :
    goal.returns-in-Ok-read_reservations-clause-not_again
returns-in-Ok-read_reservations-clause-not_again g c =
    not_again c.args.keys (g.D.Disk.bytes c.args.disk) (g.D.Disk.bytes c.in-Ok.journal.disk) c.in-Ok.journal.payloads c.in-Ok-read_reservations.count c.in-Ok.ensures.same.same c.in-Ok.ensures.ok c.in-Ok-read_reservations.ensures.ok c.in-Ok.ensures.only

pub returns-in-Ok-read_reservations-clause-bounded :
    goal.returns-in-Ok-read_reservations-clause-bounded
returns-in-Ok-read_reservations-clause-bounded g c =
    let d = c.in-Ok.journal.disk in
    let read = c.in-Ok-read_reservations.ensures in
    leaves c.args.keys (g.D.Disk.bytes c.args.disk) (g.D.Disk.bytes d) c.in-Ok.journal.payloads c.in-Ok-read_reservations.count c.in-Ok.ensures.same.same c.in-Ok.ensures.ok read.ok (g.D.Disk.images d) c.in-Ok.ensures.durable read.counted.1
    (g.D.Disk.images c.read_reservations.new.journal.disk) read.same.2.no_new

pub returns-in-Err-read_reservations-clause-first_refusal :
    goal.returns-in-Err-read_reservations-clause-first_refusal
returns-in-Err-read_reservations-clause-first_refusal g c =
    read_refusal (limit_of c.args.keys) (g.D.Disk.bytes c.args.disk) (g.D.Disk.bytes c.in-Ok.journal.disk) c.in-Ok.journal.payloads c.in-Err-read_reservations.e c.in-Err-read_reservations.ensures.first_refusal c.in-Ok.ensures.same.same c.in-Ok.ensures.only
