use Rattle.std.proofs.Common.{List, ℕ}
use Rattle.base_streams.specs.Streams.{Wrote, WrotePart}
use Rattle.vote_log.proofs.LogKeeps.{kept_unwritten}
use Rattle.vote_log.proofs.Sending.{exported, on_err_maps, on_ok_maps}
use Rattle.vote_log.proofs.log.VoteLog.export.Goals as goal

pub invariant_of-self : goal.invariant_of-self
invariant_of-self g c =
    let same = c.send_export.ensures.same in
    kept_unwritten _ _ _ _ _ _ _ _ _ _ c.self.invariant same.2.same same.2.no_new same.0 same.1

pub returns-clause-ok : goal.returns-clause-ok
returns-clause-ok g c =
    let journal = c.self.inside.journal in
    rw (← c.self.view_is) (on_ok_maps c.send_export.result _ _ (
    exported (g.D.Disk.bytes journal.disk) journal.payloads c.self.inside.steps.items c.self.invariant.listed
    (λ (t : List ℕ). Wrote (g.W.Sink.text c.args.sink.now) (g.W.Sink.text c.send_export.new.sink) t) c.args.first c.args.most) c.send_export.ensures.ok)

pub returns-clause-part : goal.returns-clause-part
returns-clause-part g c =
    let journal = c.self.inside.journal in
    rw (← c.self.view_is) (on_err_maps c.send_export.result _ _ (
    exported (g.D.Disk.bytes journal.disk) journal.payloads c.self.inside.steps.items c.self.invariant.listed
    (λ (t : List ℕ). WrotePart (g.W.Sink.text c.args.sink.now) (g.W.Sink.text c.send_export.new.sink) t) c.args.first c.args.most) c.send_export.ensures.part)
