use Rattle.std.proofs.lemmas.Result.{err_from_is_err_and}
use Rattle.handover_folder.specs.State.{said_in}
use Rattle.handover_folder.proofs.Recovered.{take_refused}
use Rattle.handover_folder.proofs.store.read_words.Goals as goal

pub returns-in_err-take-clause-first_refusal : goal.returns-in_err-take-clause-first_refusal
returns-in_err-take-clause-first_refusal g c =
    let inv = c.loop-k.invariant in
    let told = g.D.Disk.bytes c.args.journal.now.disk in
    let p = err_from_is_err_and c.from_residual-in_err-take.result c.from_residual-in_err-take.ensures.1 in
    rw (p.1, p.2) (
    take_refused told (g.D.Disk.bytes c.loop-k.journal.disk) c.args.journal.now.payloads c.loop-k.journal.payloads c.loop-k.k (said_in c.loop-k.words) c.entry.new.out.items inv.unwritten.same inv.payloads inv.whole inv.read c.in_ok-entry.ensures.ok _
    (rw (← c.deref.ensures.value) c.in_err-take.ensures.first_refusal))
