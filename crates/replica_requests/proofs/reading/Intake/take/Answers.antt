use Rattle.std.proofs.Common.{◌≡◌, ◌<◌, ◌∙◌, ◌++◌, ◌∷◌, [], List, ℕ, ap, append_assoc, arith, length, rules, subst, sym}
use Rattle.std.proofs.lemmas.Result.{on_ok_weaker}
use Rattle.replica_requests.specs.Intakes.{IsTakenIn}
use Rattle.replica_requests.specs.declared.reading.TheConstants.{MOST_LINES}
use Rattle.replica_requests.proofs.Taking.{full_already, joined, next_line, next_part}
use Rattle.replica_requests.proofs.reading.Intake.take.Goals as goal

pub returns-then-is_full-clause-ok : goal.returns-then-is_full-clause-ok
returns-then-is_full-clause-ok c text taken =
    let (done, piece, fewer, so) = c.loop-front.invariant in
    let front = c.in-Some.front.now in
    let behind = c.in-Some.behind.now in
    let requests = c.end_line.new.self.requests.items in
    let line = c.end_line.new.self.line in
    let step = next_line (text ++ done) front _ requests _ _ line (so text taken) fewer c.in-Some.ensures.some.1 c.in_ok-add.ensures c.in_ok-end_line.ensures.added c.in_ok-end_line.ensures.next in
    let full : length requests ≡ MOST_LINES = search rules in
    subst (λ (t : List ℕ). IsTakenIn t requests line) (joined text c.args.piece.now done c.loop-front.rest.now front behind piece c.in-Some.ensures.some.0)
    (full_already _ behind requests line step full)

pub loop-front-preserved : goal.loop-front-preserved
loop-front-preserved c =
    let (done, piece, fewer, so) = c.loop-front.invariant in
    let front = c.in-Some.front.now in
    let behind = c.in-Some.behind.now in
    let requests = c.end_line.new.self.requests.items in
    let line = c.end_line.new.self.line in
    let taken_too = done ++ (front ++ 10 ∷ []) in
    let place : c.args.piece.now ≡ taken_too ++ behind = sym (joined [] c.args.piece.now done c.loop-front.rest.now front behind piece c.in-Some.ensures.some.0) in
    let room : length requests < MOST_LINES = grind (arith, c.in_ok-end_line.ensures.count, fewer) in (
      taken_too,
      place,
      room,
      λ text taken.
          let step = next_line (text ++ done) front _ requests _ _ line (so text taken) fewer c.in-Some.ensures.some.1 c.in_ok-add.ensures c.in_ok-end_line.ensures.added c.in_ok-end_line.ensures.next in
          subst (λ (t : List ℕ). IsTakenIn t requests line) (append_assoc text done (front ++ 10 ∷ [])) step,
    )

pub returns-clause-ok : goal.returns-clause-ok
returns-clause-ok c =
    let (done, piece, fewer, so) = c.loop-front.invariant in
    on_ok_weaker c.add-2.result (λ longer text taken.
    let step = next_part (text ++ done) c.loop-front.rest.now c.loop-front.self.requests.items _ c.add-2.new.self (so text taken) fewer c.in_default.ensures.none longer in
    subst (λ (t : List ℕ). IsTakenIn t c.loop-front.self.requests.items c.add-2.new.self)
    (append_assoc text done c.loop-front.rest.now ∙ ap (λ (t : List ℕ). text ++ t) (sym piece)) step) c.add-2.ensures
