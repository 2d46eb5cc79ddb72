use Rattle.std.proofs.Common.{◌≡◌, ◌<◌, ◌≤◌, ℕ, List, [], Some, length, get_or, refl, subst, sym, ap, ◌∙◌, arith}
use Rattle.std.specs.Prelude.{slice_get}
use Rattle.std.proofs.lemmas.List.{take_all}
use Rattle.std.proofs.lemmas.Option.{get_or_from_slice_get}
use Rattle.program_show.specs.Entries.{IsPayloadShown}
use Rattle.program_show.specs.Series.{AddsText, AreOf}
use Rattle.program_show.proofs.Longer.{adds_more, adds_none}
use Rattle.program_show.proofs.log.put_entries.Goals as goal

pub loop-k-preserved : goal.loop-k-preserved
loop-k-preserved c =
    let inv = c.loop-k.invariant in
    let list = c.args.journal.now.payloads in
    let inside : c.loop-k.k < length list = omega (arith, ap (λ (l : List (List ℕ)). length l) inv.payloads) in
    let got : slice_get list c.loop-k.k ≡ Some c.entry.new.out.items = ap (λ (l : List (List ℕ)). slice_get l c.loop-k.k) (sym inv.payloads) ∙ c.in-Ok.ensures.ok in
    let item : c.deref.result.now ≡ get_or list c.loop-k.k [] = c.deref.ensures.value ∙ sym (get_or_from_slice_get list c.loop-k.k c.entry.new.out.items [] got) in
    let here = subst (λ (p : List ℕ). AddsText c.loop-k.text.items c.put_payload.new.text.items c.loop-k.marks.items c.put_payload.new.marks.items (IsPayloadShown c.args.committee.now c.loop-k.k p))
    item c.in_ok-put_payload.ensures in
    record {
      payloads = c.in-Ok.ensures.same.0 ∙ inv.payloads;
      shown = adds_more (IsPayloadShown c.args.committee.now) list c.loop-k.k []
          c.args.text.now.items c.loop-k.text.items c.put_payload.new.text.items c.args.marks.now.items c.loop-k.marks.items c.put_payload.new.marks.items
          inside inv.shown here;
    }

pub loop-k-init : goal.loop-k-init
loop-k-init c = record { payloads = refl; shown = adds_none (IsPayloadShown c.args.committee.now) c.args.text.now.items c.args.marks.now.items }

pub returns-clause-text : goal.returns-clause-text
returns-clause-text c =
    let list = c.args.journal.now.payloads in
    let end : length list ≤ c.loop-k.k = omega arith in
    subst (λ (ps : List (List ℕ)). AddsText c.args.text.now.items c.loop-k.text.items c.args.marks.now.items c.loop-k.marks.items (AreOf (IsPayloadShown c.args.committee.now) 0 ps))
    (take_all c.loop-k.k list end) c.loop-k.invariant.shown
