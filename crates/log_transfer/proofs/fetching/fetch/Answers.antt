use Rattle.std.proofs.Common.{refl, subst}
use Rattle.log_transfer.specs.Pulls.{IsStep, first_place}
use Rattle.log_transfer.specs.declared.pull.Step.{Step}
use Rattle.log_transfer.proofs.Places.{fetched_end}
use Rattle.log_transfer.proofs.Causes.{end_caused}
use Rattle.log_transfer.proofs.fetching.fetch.Goals as goal

pub returns-in-End-clause-ok : goal.returns-in-End-clause-ok
returns-in-End-clause-ok g c =
    let gives = g.C.Connector.gives in
    let left = g.C.Connector.left in
    let now = c.loop-payload.connector in
    let then = c.next_frame.new.connector in
    let q = c.loop-payload.place in
    let r = c.next_frame.new.place in
    let end = subst (λ (s : Step). IsStep g.C.Connector (record { connector = now; place = q }) (record { connector = then; place = r }) c.next_frame.new.out.items s) c.in-End.is c.in_ok-next_frame.ensures.ok in
    fetched_end (gives c.args.connector.now) (gives now) (gives then) (left c.args.connector.now) (left now) (left then) (first_place c.args.tries) q r c.loop-payload.frames.items c.in-End.status refl c.loop-payload.invariant.leads end.3.1 end.0 end.1

pub returns-in-End-clause-cause : goal.returns-in-End-clause-cause
returns-in-End-clause-cause g c =
    let gives = g.C.Connector.gives in
    let left = g.C.Connector.left in
    let now = c.loop-payload.connector in
    let then = c.next_frame.new.connector in
    let end = subst (λ (s : Step). IsStep g.C.Connector (record { connector = now; place = c.loop-payload.place }) (record { connector = then; place = c.next_frame.new.place }) c.next_frame.new.out.items s) c.in-End.is c.in_ok-next_frame.ensures.ok in
    let caused = c.next_frame.ensures.cause (g.C.Connector.failed c.args.connector.now) c.loop-payload.invariant.cause in
    end_caused (g.C.Connector.failed c.args.connector.now) (g.C.Connector.failed then) c.next_frame.new.place c.in-End.status caused end.0 end.1
