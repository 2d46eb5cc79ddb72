use Rattle.std.proofs.Common.{◌≡◌, ◌<◌, ◌+◌, ◌++◌, ◌∷◌, [], List, false, length, refl, sym, ap, ◌∙◌, subst, arith}
use Rattle.std.specs.Result.{is_err}
use Rattle.base_wire.specs.Payloads.{IsPayload}
use Rattle.stable_log.specs.Image.{LeavesList, staged_text}
use Rattle.stable_log.specs.Places.{IsJournal, payloads_at}
use Rattle.stable_log.specs.declared.reading.PayloadPlace.{PayloadPlace}
use Rattle.stable_log.proofs.Append.{run_keeps, list_kept, journal_after, list_after, durable_after}
use Rattle.stable_log.proofs.Told.{some_if, ok_holds}
use Rattle.stable_log.proofs.journal.Journal.append.Goals as goal

pub returns-then-is_err-clause-any_moment : goal.returns-then-is_err-clause-any_moment
returns-then-is_err-clause-any_moment g c =
    let d = c.self.inside.disk in
    let o = g.D.Disk.bytes d in
    let places = c.self.inside.places.items in
    let p = c.args.payload.now in
    let size : IsPayload p = (omega arith, omega arith) in
    let few : length places < 4096 = omega arith in
    let is_text : c.deref.result.now ≡ staged_text p = c.deref.ensures.value ∙ c.in_ok-text.ensures in
    rw (← c.self.view_is) (λ _. run_keeps o (g.D.Disk.images d) places c.self.inside.gate_at c.self.inside.stopped p c.self.invariant c.if-self.false few size c.deref.result.now is_text g.D.Disk.moment g.D.Disk.images_since d c.write_payload.new.disk c.write_payload.ensures.any_moment)

pub returns-then-is_err-clause-device : goal.returns-then-is_err-clause-device
returns-then-is_err-clause-device g c =
    let d = c.self.inside.disk in
    let o = g.D.Disk.bytes d in
    let places = c.self.inside.places.items in
    let p = c.args.payload.now in
    let size : IsPayload p = (omega arith, omega arith) in
    let few : length places < 4096 = omega arith in
    let is_text : c.deref.result.now ≡ staged_text p = c.deref.ensures.value ∙ c.in_ok-text.ensures in
    let kept = list_kept o (g.D.Disk.images d) places c.self.inside.gate_at c.self.inside.stopped p c.self.invariant c.if-self.false few size c.deref.result.now is_text g.D.Disk.moment g.D.Disk.images_since d c.write_payload.new.disk c.write_payload.ensures.any_moment (g.D.Disk.bytes c.write_payload.new.disk) (g.D.Disk.images c.write_payload.new.disk) c.write_payload.ensures.tells (g.met.D.Disk.as_read c.write_payload.new.disk) (g.met.D.Disk.counts_now c.write_payload.new.disk) in
    λ _. (ap (λ (l : List PayloadPlace). payloads_at (g.D.Disk.bytes c.write_payload.new.disk) l) c.in_ok-reserve.ensures.items ∙ kept ∙ ap (λ v. v.payloads) c.self.view_is, refl)

pub invariant_of-self-2 : goal.invariant_of-self-2
invariant_of-self-2 g c =
    let d = c.self.inside.disk in
    let o = g.D.Disk.bytes d in
    let places = c.self.inside.places.items in
    let p = c.args.payload.now in
    let size : IsPayload p = (omega arith, omega arith) in
    let few : length places < 4096 = omega arith in
    let went : is_err c.write_payload.result ≡ false = sym c.is_err.ensures.value ∙ c.if-is_err.false in
    let told = ok_holds c.write_payload.result _ went c.write_payload.ensures.told in
    let durable = ok_holds c.write_payload.result _ went c.write_payload.ensures.durable in
    let is_text : c.deref.result.now ≡ staged_text p = c.deref.ensures.value ∙ c.in_ok-text.ensures in
    let place : PayloadPlace = record { at = c.self.inside.gate_at + 5; len = length p } in
    let pushed : c.push_reserved.new.self.items ≡ places ++ place ∷ [] = c.push_reserved.ensures.items ∙ ap (λ (l : List PayloadPlace). l ++ place ∷ []) c.in_ok-reserve.ensures.items in
    subst (λ (l : List PayloadPlace). IsJournal (g.D.Disk.bytes c.write_payload.new.disk) (g.D.Disk.images c.write_payload.new.disk) l (c.self.inside.gate_at + 5 + length p) c.self.inside.stopped) (sym pushed)
    (journal_after o (g.D.Disk.images d) places c.self.inside.gate_at c.self.inside.stopped p c.self.invariant c.if-self.false few size c.deref.result.now is_text (g.D.Disk.bytes c.write_payload.new.disk) (g.D.Disk.images c.write_payload.new.disk) told durable)

pub returns-clause-ok : goal.returns-clause-ok
returns-clause-ok g c =
    let d = c.self.inside.disk in
    let o = g.D.Disk.bytes d in
    let places = c.self.inside.places.items in
    let p = c.args.payload.now in
    let size : IsPayload p = (omega arith, omega arith) in
    let few : length places < 4096 = omega arith in
    let went : is_err c.write_payload.result ≡ false = sym c.is_err.ensures.value ∙ c.if-is_err.false in
    let told = ok_holds c.write_payload.result _ went c.write_payload.ensures.told in
    let durable = ok_holds c.write_payload.result _ went c.write_payload.ensures.durable in
    let is_text : c.deref.result.now ≡ staged_text p = c.deref.ensures.value ∙ c.in_ok-text.ensures in
    let place : PayloadPlace = record { at = c.self.inside.gate_at + 5; len = length p } in
    let pushed : c.push_reserved.new.self.items ≡ places ++ place ∷ [] = c.push_reserved.ensures.items ∙ ap (λ (l : List PayloadPlace). l ++ place ∷ []) c.in_ok-reserve.ensures.items in
    rw (← c.self.view_is) (some_if o _ (λ bs is. ap (λ (l : List PayloadPlace). payloads_at (g.D.Disk.bytes c.write_payload.new.disk) l) pushed
    ∙ list_after o (g.D.Disk.images d) places c.self.inside.gate_at c.self.inside.stopped p c.self.invariant c.if-self.false few size c.deref.result.now is_text (g.D.Disk.bytes c.write_payload.new.disk) (g.D.Disk.images c.write_payload.new.disk) told durable bs is))

pub returns-clause-durable : goal.returns-clause-durable
returns-clause-durable g c =
    let d = c.self.inside.disk in
    let o = g.D.Disk.bytes d in
    let places = c.self.inside.places.items in
    let p = c.args.payload.now in
    let size : IsPayload p = (omega arith, omega arith) in
    let few : length places < 4096 = omega arith in
    let went : is_err c.write_payload.result ≡ false = sym c.is_err.ensures.value ∙ c.if-is_err.false in
    let told = ok_holds c.write_payload.result _ went c.write_payload.ensures.told in
    let durable = ok_holds c.write_payload.result _ went c.write_payload.ensures.durable in
    let is_text : c.deref.result.now ≡ staged_text p = c.deref.ensures.value ∙ c.in_ok-text.ensures in
    let place : PayloadPlace = record { at = c.self.inside.gate_at + 5; len = length p } in
    let pushed : c.push_reserved.new.self.items ≡ places ++ place ∷ [] = c.push_reserved.ensures.items ∙ ap (λ (l : List PayloadPlace). l ++ place ∷ []) c.in_ok-reserve.ensures.items in
    rw (← c.self.view_is) (some_if o _ (λ bs is. subst (λ (l : List PayloadPlace). LeavesList (g.D.Disk.images c.write_payload.new.disk) (payloads_at (g.D.Disk.bytes c.write_payload.new.disk) l)) (sym pushed)
    (durable_after o (g.D.Disk.images d) places c.self.inside.gate_at c.self.inside.stopped p c.self.invariant c.if-self.false few size c.deref.result.now is_text (g.D.Disk.bytes c.write_payload.new.disk) (g.D.Disk.images c.write_payload.new.disk) told durable bs is)))

pub returns-clause-any_moment : goal.returns-clause-any_moment
returns-clause-any_moment g c =
    let d = c.self.inside.disk in
    let o = g.D.Disk.bytes d in
    let places = c.self.inside.places.items in
    let p = c.args.payload.now in
    let size : IsPayload p = (omega arith, omega arith) in
    let few : length places < 4096 = omega arith in
    let is_text : c.deref.result.now ≡ staged_text p = c.deref.ensures.value ∙ c.in_ok-text.ensures in
    rw (← c.self.view_is) (λ _. run_keeps o (g.D.Disk.images d) places c.self.inside.gate_at c.self.inside.stopped p c.self.invariant c.if-self.false few size c.deref.result.now is_text g.D.Disk.moment g.D.Disk.images_since d c.write_payload.new.disk c.write_payload.ensures.any_moment)
