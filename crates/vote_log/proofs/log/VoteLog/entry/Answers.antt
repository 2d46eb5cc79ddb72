use Rattle.std.proofs.Common.{refl}
use Rattle.stable_log.proofs.Told.{some_if, if_some, ok_maps, err_maps}
use Rattle.std.specs.Prelude.{map}
use Rattle.log_format.specs.EntryReading.{entry_in}
use Rattle.vote_log.specs.Logs.{LogState}
use Rattle.vote_log.proofs.LogKeeps.{entry_at_is, entry_fault, kept_unwritten}
use Rattle.vote_log.proofs.log.VoteLog.entry.Goals as goal

pub invariant_of-self : goal.invariant_of-self
invariant_of-self g c =
    let same = c.read_entry.ensures.same in
    kept_unwritten _ _ _ _ _ _ _ _ _ _ c.self.invariant same.2.same same.2.no_new same.0 same.1

pub returns-clause-ok : goal.returns-clause-ok
returns-clause-ok g c =
    let told = g.D.Disk.bytes c.self.inside.journal.disk in
    rw (← c.self.view_is) (ok_maps c.read_entry.result _ _ c.read_entry.ensures.ok
    (λ e some. some_if told _ (λ bs is. entry_at_is c.self.inside.journal.payloads c.args.k e (if_some told _ bs some is))))

pub returns-clause-first_refusal : goal.returns-clause-first_refusal
returns-clause-first_refusal g c =
    let told = g.D.Disk.bytes c.self.inside.journal.disk in
    let i = c.self.inside in
    let log : LogState _ = record { disk = i.journal.disk; genesis = i.genesis; entries = map entry_in i.journal.payloads; steps = i.steps.items; stopped = i.journal.stopped } in
    rw (← c.self.view_is) (err_maps c.read_entry.result _ _ c.read_entry.ensures.first_refusal
    (λ e fault. entry_fault told i.journal log c.args.k e refl c.self.invariant.counted c.self.invariant.listed fault))
