use Rattle.std.proofs.Common.{◌≡◌, ◌<◌, ℕ, false, Some, length, take, drop, sym, ap, ◌∙◌, arith, rules}
use Rattle.std.specs.Prelude.{slice_get}
use Rattle.std.specs.Result.{is_err}
use Rattle.stable_log.specs.Places.{payloads_at}
use Rattle.stable_log.specs.declared.reading.PayloadPlace.{PayloadPlace}
use Rattle.stable_log.proofs.Told.{ok_holds, some_if}
use Rattle.stable_log.proofs.Places.{nth_payload}
use Rattle.stable_log.proofs.journal.Journal.entry.Goals as goal

pub returns-clause-ok : goal.returns-clause-ok
returns-clause-ok g c =
    let o = g.D.Disk.bytes c.self.inside.disk in
    let places = c.self.inside.places.items in
    let place : PayloadPlace = c.index-place.result.now in
    let went : is_err c.fill.result ≡ false = sym c.is_err.ensures.value ∙ c.if-is_err.false in
    let size : length c.in_ok-payload.payload.items ≡ place.len = search rules in
    let k_fits : c.args.k < length places = omega arith in
    rw (← c.self.view_is) (some_if o _ (λ bs is.
    let read = ok_holds c.fill.result _ went c.fill.ensures.told bs is ∙ ap (λ (n : ℕ). take n (drop place.at bs)) size in
    ap (λ v. slice_get (payloads_at v places) c.args.k) is ∙ nth_payload bs places c.args.k place k_fits c.index-place.ensures ∙ ap Some (sym read)))
