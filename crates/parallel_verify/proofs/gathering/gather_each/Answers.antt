use Rattle.std.proofs.Common.{get_or, sym, subst}
use Rattle.std.proofs.lemmas.Result.{IfOk-weaker}
use Rattle.parallel_verify.specs.Readings.{IsOutcome}
use Rattle.parallel_verify.specs.declared.source.Observed.{Observed}
use Rattle.parallel_verify.proofs.gathering.gather_each.Goals as goal

pub returns-clause-each : goal.returns-clause-each
returns-clause-each g c =
    IfOk-weaker c.map_vec.result _ _ (λ outs gives i s d l.
    let job = (gives i d l).1 in
    subst (λ (o : Observed g.row.C.Denot g.row.O.Denot). IsOutcome g.C.Connector g.O.Observer.told c.args.committee.now o (get_or outs.items i d)) (sym (job.job_is s)) (job.call.met)) c.map_vec.ensures.each
