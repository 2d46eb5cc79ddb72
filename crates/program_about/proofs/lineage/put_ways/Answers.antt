use Rattle.std.proofs.Common.{◌≡◌, ◌++◌, ◌+◌, ◌<◌, ℕ, List, Option, None, Some, Bor, get_or, length, option_copied, slice_get, add-one, append_assoc, refl, sym, ap, ◌∙◌}
use Rattle.std.specs.Slice.{IsItemAt}
use Rattle.std.proofs.lemmas.Option.{get_or_from_slice_get, slice_get_past, slice_get_read}
use Rattle.handover_steps.specs.LineageLines.{no_step, nth_step}
use Rattle.handover_steps.specs.Steps.{Step}
use Rattle.handover_renewals.specs.declared.kinds.SlotKind.{SlotKind}
use Rattle.program_about.specs.LineageSheets.{way_line, ways_upto}
use Rattle.program_about.proofs.lineage.put_ways.Goals as goal

got_at : (kinds : List SlotKind) (i : ℕ) (got : Option (Bor SlotKind)) → IsItemAt kinds i got → option_copied got ≡ slice_get kinds i
got_at kinds i None item = sym (slice_get_past kinds i item.3)
got_at kinds i (Some kind) item = sym (slice_get_read kinds (length kinds) i kind.now refl item.3.0 item.1)

-- one more step
one_more : (steps : List Step) (r k : ℕ) (step : Step) (kinds : List SlotKind) (i : ℕ) (got : Option (Bor SlotKind)) (before now next : List ℕ)
    → k < length steps → step ≡ get_or steps k step → kinds ≡ step.kinds → i ≡ r → IsItemAt kinds i got
    → now ≡ before ++ ways_upto steps r k → next ≡ now ++ way_line (k + 1) r (option_copied got)
    → next ≡ before ++ ways_upto steps r (k + 1)
one_more steps r k step kinds i got before now next within is of_step is_r item so_far added =
    let nth : nth_step steps k ≡ step = get_or_from_slice_get steps k step no_step (slice_get_read steps (length steps) k step refl within is) in
    let same : kinds ≡ (nth_step steps k).kinds = of_step ∙ ap (λ (s : Step). s.kinds) (sym nth) in
    let kind : option_copied got ≡ slice_get (nth_step steps k).kinds r =
    got_at kinds i got item ∙ ap (λ (n : ℕ). slice_get kinds n) is_r ∙ ap (λ (ks : List SlotKind). slice_get ks r) same in
    added
    ∙ ap (λ (t : List ℕ). t ++ way_line (k + 1) r (option_copied got)) so_far
    ∙ append_assoc before (ways_upto steps r k) (way_line (k + 1) r (option_copied got))
    ∙ ap (λ (o : Option SlotKind). before ++ (ways_upto steps r k ++ way_line (k + 1) r o)) kind
    ∙ ap (λ (n : ℕ). before ++ ways_upto steps r n) (sym (add-one k))

pub loop-k-preserved : goal.loop-k-preserved
loop-k-preserved c =
    one_more c.args.steps.now c.args.r c.loop-k.k c.index-steps-k.result c.kinds.result.now c.from.result c.get.result
    c.args.text.now.items c.loop-k.text.items c.put_way.new.text.items
    c.loop-k-test.true c.index-steps-k.is c.kinds.ensures c.from.ensures c.get.ensures.lookup c.loop-k.invariant c.in_ok-put_way.ensures
