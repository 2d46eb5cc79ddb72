use Rattle.std.proofs.Common.{◌+◌, false, refl, take, arith}
use Rattle.log_transfer.specs.declared.reader_state.ReaderState.{ReaderState}
use Rattle.log_transfer.proofs.Places.{leads_frame, leads_end}
use Rattle.log_transfer.proofs.Bounds.{place_within, place_ended}
use Rattle.log_transfer.proofs.Causes.{ended_caused}
use Rattle.log_transfer.proofs.steps.step.Goals as goal

pub read_frame-requires-clause-bytes : goal.read_frame-requires-clause-bytes
read_frame-requires-clause-bytes g c = c.requires.place.frames c.requires.shown

pub returns-in-Frame-clause-place : goal.returns-in-Frame-clause-place
returns-in-Frame-clause-place g c =
    let p = c.args.place.now in
    let q : ReaderState = record { held = p.held + 1; tries = p.tries; is_open = p.is_open; count = p.count + 1; last = p.last } in
    let few = c.requires.place.few in
    let counted = c.requires.place.counted in
    let room = c.in-Frame.ensures.came.0 in
    place_within (g.C.Connector.taken c.read_frame.new.connector) q (omega arith) (omega arith) c.in-Frame.ensures.bytes

pub returns-in-End-clause-place : goal.returns-in-End-clause-place
returns-in-End-clause-place g c =
    let p = c.args.place.now in
    let q : ReaderState = record { held = p.held; tries = p.tries; is_open = false; count = p.count; last = c.in-End.status } in
    place_ended (g.C.Connector.taken c.read_frame.new.connector) q c.requires.place.few c.requires.place.counted refl c.in-End.ensures.bytes

pub returns-in-Frame-clause-turn : goal.returns-in-Frame-clause-turn
returns-in-Frame-clause-turn g c =
    let p = c.args.place.now in
    let q : ReaderState = record { held = p.held + 1; tries = p.tries; is_open = p.is_open; count = p.count + 1; last = p.last } in
    let gives = g.C.Connector.gives in
    let left = g.C.Connector.left in
    let came = c.in-Frame.ensures.came in (
      came.1,
      refl,
      leads_frame (gives c.args.connector.now) (gives c.read_frame.new.connector) (left c.args.connector.now) (left c.read_frame.new.connector) p q c.requires.shown c.in-Frame.ensures.later refl
          (take c.in-Frame.len c.read_frame.new.buffer) came.0 came.1 came.2 c.requires.shown refl refl,
      c.requires.shown,
    )

pub returns-in-End-clause-turn : goal.returns-in-End-clause-turn
returns-in-End-clause-turn g c =
    let p = c.args.place.now in
    let q : ReaderState = record { held = p.held; tries = p.tries; is_open = false; count = p.count; last = c.in-End.status } in
    let gives = g.C.Connector.gives in
    let left = g.C.Connector.left in (
      rw (c.requires.shown) (omega arith),
      (
        refl,
        leads_end (gives c.args.connector.now) (gives c.read_frame.new.connector) (left c.args.connector.now) (left c.read_frame.new.connector) p q c.requires.shown c.in-End.ensures.later refl
            c.in-End.ensures.came refl refl,
      ),
    )

pub returns-in-End-clause-cause : goal.returns-in-End-clause-cause
returns-in-End-clause-cause g c before caused =
    let p = c.args.place.now in
    let q : ReaderState = record { held = p.held; tries = p.tries; is_open = false; count = p.count; last = c.in-End.status } in
    ended_caused before (g.C.Connector.failed c.args.connector.now) (g.C.Connector.failed c.read_frame.new.connector) p q c.in-End.ensures.counted caused
