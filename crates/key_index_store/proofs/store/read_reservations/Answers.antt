use Rattle.std.proofs.Common.{◌≡◌, ◌<◌, ℕ, List, true, Some, length, sym, ap, ◌∙◌, arith, rules}
use Rattle.std.specs.Prelude.{slice_get}
use Rattle.std.proofs.lemmas.Bool.{false≢true}
use Rattle.key_index_store.specs.Boundary.{reservation}
use Rattle.key_index_store.specs.Indices.{limit_of}
use Rattle.key_index_store.proofs.Bounds.{some_if, if_some}
use Rattle.key_index_store.proofs.Reservations.{too_many, other_entry, take-reservations}
use Rattle.key_index_store.proofs.store.read_reservations.Goals as goal

pub returns-then-count-indices_of-clause-first_refusal : goal.returns-then-count-indices_of-clause-first_refusal
returns-then-count-indices_of-clause-first_refusal g c = some_if (g.D.Disk.bytes c.args.journal.now.disk) _ (λ bs is n few. too_many (limit_of c.args.keys) c.args.journal.now.payloads n (omega arith) few)

pub returns-then-not-is_reservation-clause-first_refusal : goal.returns-then-not-is_reservation-clause-first_refusal
returns-then-not-is_reservation-clause-first_refusal g c = some_if (g.D.Disk.bytes c.args.journal.now.disk) _ (λ bs is n few.
    let inv = c.loop-k.invariant in
    let list = c.args.journal.now.payloads in
    let got = if_some (g.D.Disk.bytes c.loop-k.journal.disk) _ bs c.in_ok-entry.ensures.ok (inv.unwritten.same ∙ is) in
    let got_here : slice_get list c.loop-k.k ≡ Some c.entry.new.out.items = ap (λ (l : List (List ℕ)). slice_get l c.loop-k.k) (sym inv.payloads) ∙ got in
    let inside : c.loop-k.k < length list = omega (arith, ap length inv.payloads) in
    other_entry list c.entry.new.out.items c.loop-k.k n got_here (λ same.
    let yes : c.is_reservation.result ≡ true = c.is_reservation.ensures.1 (c.deref.ensures.value ∙ same) in
    false≢true (sym c.if-not-is_reservation.true ∙ yes)) inside)

pub loop-k-preserved : goal.loop-k-preserved
loop-k-preserved g c =
    let inv = c.loop-k.invariant in
    let entry = c.in_ok-entry.ensures in
    record {
      payloads = entry.same.0 ∙ inv.payloads;
      running = entry.same.1 ∙ inv.running;
      unwritten = search rules;
      no_failure = entry.no_failure ∙ inv.no_failure;
      read = λ bs is.
          let list = c.args.journal.now.payloads in
          let got = if_some (g.D.Disk.bytes c.loop-k.journal.disk) _ bs entry.ok (inv.unwritten.same ∙ is) in
          let is_one : c.entry.new.out.items ≡ reservation c.loop-k.k = sym c.deref.ensures.value ∙ c.is_reservation.ensures.0 c.if-not-is_reservation.false in
          take-reservations list c.loop-k.k (inv.read bs is) (ap (λ (l : List (List ℕ)). slice_get l c.loop-k.k) (sym inv.payloads) ∙ got ∙ ap Some is_one);
    }
