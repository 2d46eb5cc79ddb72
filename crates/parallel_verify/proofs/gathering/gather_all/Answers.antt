use Rattle.std.proofs.lemmas.Result.{IfErr-weaker}
use Rattle.parallel_verify.specs.Readings.{IsOutcome}
use Rattle.parallel_verify.proofs.Outcomes.{all_gathered, one_refused, zip_of_each}
use Rattle.parallel_verify.proofs.gathering.gather_all.Goals as goal

pub returns-clause-ok : goal.returns-clause-ok
returns-clause-ok g c =
    let told = g.O.Observer.told in
    let committee = c.args.committee.now in
    let sources = c.args.sources.items in
    let outs = c.in_ok-outs.outs.items in
    let zip = zip_of_each (IsOutcome g.C.Connector told committee) sources outs c.in_ok-outs.ensures.len c.in_ok-outs.ensures.each in
    all_gathered g.C.Connector told committee sources outs zip c.parts_and_observers.result (λ r. r.0.items) (λ r. r.1.items) c.parts_and_observers.ensures.parts c.parts_and_observers.ensures.observers

pub returns-clause-refused : goal.returns-clause-refused
returns-clause-refused g c =
    let told = g.O.Observer.told in
    let committee = c.args.committee.now in
    let sources = c.args.sources.items in
    let outs = c.in_ok-outs.outs.items in
    let zip = zip_of_each (IsOutcome g.C.Connector told committee) sources outs c.in_ok-outs.ensures.len c.in_ok-outs.ensures.each in
    IfErr-weaker c.parts_and_observers.result _ _ (λ e refused. one_refused g.C.Connector told committee sources outs e zip refused) c.parts_and_observers.ensures.refused
