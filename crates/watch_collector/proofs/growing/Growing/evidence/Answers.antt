use Rattle.std.proofs.Common.{◌++◌, refl, subst}
use Rattle.audit_evidence.specs.Gathering.{Gathered}
use Rattle.watch_collector.specs.Growing.{IsShownOf}
use Rattle.watch_collector.proofs.Judging.{shows}
use Rattle.watch_collector.proofs.growing.Growing.evidence.Goals as goal

pub returns : goal.returns
returns c =
    let s = c.self.inside in
    subst (λ (g : Gathered). IsShownOf g c.args.sources.items c.of_known.result) c.self.view_is
    (shows (record { committee = s.committee; headers = s.headers; votes = s.good ++ s.bad }) s.good s.bad c.in_ok-to_vec.field-0.items c.in_ok-copies.field-0.items c.again.result c.args.sources.items c.of_known.result
    c.self.invariant refl c.again.ensures.same c.in_ok-copies.ensures.headers c.in_ok-to_vec.ensures.votes c.of_known.ensures)
