use Rattle.std.proofs.Common.{◌≡◌, ◌+◌, ◌≤◌, ◌++◌, [], ◌∷◌, List, All, length, refl, sym, ap, ◌∙◌, subst, arith, length-append}
use Rattle.std.proofs.lemmas.List.Elements.{All-push, All-weaker}
use Rattle.stable_log.specs.Places.{IsRead, IsClosedAt, IsPayloadAt}
use Rattle.stable_log.proofs.Told.{if_some, match_some}
use Rattle.stable_log.specs.declared.reading.PayloadPlace.{PayloadPlace}
use Rattle.stable_log.proofs.Moments.{unwritten_none, unwritten_then}
use Rattle.stable_log.proofs.Places.{Within}
use Rattle.stable_log.proofs.ReadingLemmas.{read_more, read_none, entries_fault}
use Rattle.stable_log.proofs.OneList.{no_list, no_long_list}
use Rattle.std.proofs.lemmas.Result.{err_from_is_err_and}
use Rattle.stable_log.proofs.reading.read_payloads.Goals as goal

pub loop-init : goal.loop-init
loop-init g c =
    let none : c.new-places.result.items ≡ [] = c.new-places.ensures.items in
    record {
      unwritten = unwritten_none g.D.Disk.bytes g.D.Disk.images g.D.Disk.moment g.D.Disk.images_since c.args.disk.now (g.met.D.Disk.only_now c.args.disk.now);
      failed = refl;
      size = refl;
      read = λ bs is. let h = c.requires bs is in subst (λ (l : List PayloadPlace). IsRead bs l 8) (sym none) (read_none bs h.1 (omega (arith, h.0, h.2)));
      count = ap length none;
      near = omega arith;
      inside = subst (λ (l : List PayloadPlace). All (λ (p : PayloadPlace). p.at + p.len ≤ 8) l) (sym none) (λ k d lt. absurd (omega (arith, lt)));
      small = subst (λ (l : List PayloadPlace). All (λ (p : PayloadPlace). p.len ≤ 65536) l) (sym none) (λ k d lt. absurd (omega (arith, lt)));
    }

pub loop-preserved : goal.loop-preserved
loop-preserved g c =
    let inv = c.loop.invariant in
    let place = c.in-Some.place in
    let end = place.at + place.len in
    let disk = c.args.disk.now in
    let pushed : c.push_reserved.new.self.items ≡ c.loop.places.items ++ place ∷ [] = c.push_reserved.ensures.items ∙ ap (λ (l : List PayloadPlace). l ++ place ∷ []) c.in_ok-reserve-in-Some.ensures.items in
    let fits = if_some c.in_ok-read_payload.field-0 (λ (p : PayloadPlace). (p.at ≡ c.loop.gate_at + 5) × (p.len ≤ 65536) × (p.at + p.len ≤ c.args.size)) place c.in_ok-read_payload.ensures.place c.in-Some.is in
    record {
      unwritten = unwritten_then g.D.Disk.bytes g.D.Disk.images g.D.Disk.moment g.D.Disk.images_since disk c.loop.disk c.read_payload.new.disk inv.unwritten c.read_payload.ensures.unwritten;
      failed = c.in_ok-read_payload.ensures.no_failure ∙ inv.failed;
      size = refl;
      read = λ bs is.
          let size_is = (c.requires bs is).0 in
          let entry = match_some c.in_ok-read_payload.field-0 (IsClosedAt bs c.loop.gate_at) (λ (p : PayloadPlace). IsPayloadAt bs c.loop.gate_at p) place (c.in_ok-read_payload.ensures.told bs (inv.unwritten.same ∙ is) size_is) c.in-Some.is in
          subst (λ (l : List PayloadPlace). IsRead bs l end) (sym pushed) (read_more bs c.loop.places.items c.loop.gate_at place (inv.read bs is) entry (omega (arith, fits.2, size_is)) fits.0);
      count = omega (arith, ap length pushed, length-append c.loop.places.items (place ∷ []), inv.count);
      near = omega (arith, ap length pushed, length-append c.loop.places.items (place ∷ []), inv.near, fits.0, fits.1);
      inside = subst (λ (l : List PayloadPlace). All (Within end) l) (sym pushed) (All-push (Within end) c.loop.places.items place (All-weaker (Within c.loop.gate_at) (Within end) (λ q le. omega (arith, le, fits.0)) c.loop.places.items inv.inside) (omega arith));
      small = subst (λ (l : List PayloadPlace). All (λ (p : PayloadPlace). p.len ≤ 65536) l) (sym pushed) (All-push (λ (p : PayloadPlace). p.len ≤ 65536) c.loop.places.items place inv.small fits.1);
    }

pub returns-in_err-read_payload-clause-first_refusal : goal.returns-in_err-read_payload-clause-first_refusal
returns-in_err-read_payload-clause-first_refusal g c =
    let inv = c.loop.invariant in
    let p = err_from_is_err_and c.from_residual.result c.from_residual.ensures.1 in
    rw (p.1, p.2) (entries_fault (g.D.Disk.bytes c.args.disk.now) (g.D.Disk.bytes c.loop.disk) c.args.size c.loop.gate_at c.in_err-read_payload.field-0.0 c.in_err-read_payload.ensures.first_refusal inv.unwritten.same
    (λ bs is. (c.requires bs is).0) (λ bs is. no_list bs c.loop.places.items c.loop.gate_at (inv.read bs is)))

pub returns-clause-first_refusal : goal.returns-clause-first_refusal
returns-clause-first_refusal g c = λ bs is.
    let inv = c.loop.invariant in
    no_long_list bs c.loop.places.items c.loop.gate_at (inv.read bs is) (omega (arith, inv.count))
