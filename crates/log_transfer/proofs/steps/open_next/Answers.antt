use Rattle.std.proofs.Common.{◌≡◌, ◌+◌, ◌-◌, ◌≤◌, inl, inr, refl, arith}
use Rattle.log_format.specs.declared.status.Status.TheVariants.{Failed}
use Rattle.log_transfer.specs.declared.reader_state.ReaderState.{ReaderState}
use Rattle.log_transfer.proofs.Places.{leads_unopened, leads_entered}
use Rattle.log_transfer.proofs.Bounds.{place_within}
use Rattle.log_transfer.proofs.Causes.{ended_caused, entered_caused}
use Rattle.log_transfer.proofs.steps.open_next.Goals as goal

pub returns-in-Err-clause-leads : goal.returns-in-Err-clause-leads
returns-in-Err-clause-leads g c =
    let p = c.args.place.now in
    let q : ReaderState = record { held = p.held; tries = p.tries - 1; is_open = p.is_open; count = p.count; last = Failed } in
    let gives = g.C.Connector.gives in
    let left = g.C.Connector.left in
    let one : q.tries + 1 ≡ p.tries = omega arith in
    leads_unopened (gives c.args.connector.now) (gives c.connect.new.self) (left c.args.connector.now) (left c.connect.new.self) p q c.requires.closed c.requires.may one refl c.in-Err.ensures.later c.in-Err.ensures.err c.requires.closed refl

pub returns-in-Ok-clause-leads : goal.returns-in-Ok-clause-leads
returns-in-Ok-clause-leads g c =
    let p = c.args.place.now in
    let q = c.enter.new.place in
    let gives = g.C.Connector.gives in
    let left = g.C.Connector.left in
    let one : q.tries + 1 ≡ p.tries = omega arith in
    leads_entered (gives c.args.connector.now) (gives c.connect.new.self) (gives c.enter.new.connector) (left c.connect.new.self) (left c.args.connector.now) (left c.enter.new.connector) p q q.is_open refl c.requires.closed c.requires.may one c.enter.ensures.same.0
    c.in-Ok.ensures.later c.enter.ensures.later c.in-Ok.ensures.ok c.enter.ensures.entered

pub returns-in-Err-clause-cause : goal.returns-in-Err-clause-cause
returns-in-Err-clause-cause g c before caused =
    let p = c.args.place.now in
    let q : ReaderState = record { held = p.held; tries = p.tries - 1; is_open = p.is_open; count = p.count; last = Failed } in
    ended_caused before (g.C.Connector.failed c.args.connector.now) (g.C.Connector.failed c.connect.new.self) p q c.in-Err.ensures.counted.risen caused

pub returns-in-Ok-clause-cause : goal.returns-in-Ok-clause-cause
returns-in-Ok-clause-cause g c before caused =
    let failed = g.C.Connector.failed in
    let q = c.enter.new.place in
    entered_caused before (failed c.args.connector.now) (failed c.connect.new.self) (failed c.enter.new.connector) c.args.place.now q q.is_open refl c.in-Ok.ensures.counted.kept c.enter.ensures.counted caused

pub returns-in-Err-clause-place : goal.returns-in-Err-clause-place
returns-in-Err-clause-place g c =
    let p = c.args.place.now in
    let q : ReaderState = record { held = p.held; tries = p.tries - 1; is_open = p.is_open; count = p.count; last = Failed } in
    place_within (g.C.Connector.taken c.connect.new.self) q c.requires.place.few c.requires.place.counted (omega (arith, c.in-Err.ensures.fresh))

pub returns-in-Ok-clause-place : goal.returns-in-Ok-clause-place
returns-in-Ok-clause-place g c =
    let q = c.enter.new.place in
    let few = c.requires.place.few in
    let counted = c.requires.place.counted in
    let held = c.enter.ensures.same.0 in
    let count : q.count ≤ q.held = elim c.enter.ensures.few [ inl none ↦ omega (arith, none) | inr same ↦ omega (arith, same, held, counted) ] in
    place_within (g.C.Connector.taken c.enter.new.connector) q (omega (arith, held, few)) count (omega (arith, c.enter.ensures.bytes))
