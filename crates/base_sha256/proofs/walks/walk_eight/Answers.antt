use Rattle.std.proofs.Common.{◌≡◌, ◌∙◌, ◌+◌, ℕ, ◌<◌, slice_index, slice_index_or, [], refl, sym, ap, lit<, arith}
use Rattle.base_sha256.specs.Chains.{chain_steps}
use Rattle.base_sha256.proofs.ChainLemmas.{steps_none, steps_more}
use Rattle.base_sha256.proofs.Counting.{below_eight}
use Rattle.base_sha256.proofs.VectorLemmas.{slice_index-eight}
use Rattle.base_sha256.proofs.walks.walk_eight.Goals as goal

pub steps-init : goal.steps-init
steps-init c l lt = c.load-v.ensures l lt ∙ sym (steps_none _ _ _ _ (omega arith))

pub steps-preserved : goal.steps-preserved
steps-preserved c l lt =
    let from = slice_index c.args.from.now l in
    let t = c.steps.t in
    let small : from + t < 256 = omega (arith, c.requires l lt) in
    let here : slice_index c.add-j.result l ≡ from + t =
    omega (arith, c.add-j.ensures l lt, c.in_lanes-first.ensures l lt, slice_index-eight c.from.result l lt, c.from.ensures, small) in
    let next : from + t + 1 ≡ from + (t + 1) = omega arith in
    rw (
      c.step-next.ensures l lt _ (c.fronts-front.ensures l lt) (c.five_rounds-after_five.ensures l lt) (rw here small),
      here,
      c.steps.invariant l lt,
      ← next,
      steps_more (slice_index_or c.args.prefixes.now l []) from (from + t) (slice_index_or c.args.starts.now l []) (omega arith),
    )
    refl

pub returns : goal.returns
returns c =
    let held = λ (l : ℕ) (lt : l < 8).
    let over : slice_index c.args.from.now l + c.steps.t ≡ slice_index c.args.from.now l + c.args.count = omega arith in
    c.steps.invariant l lt
    ∙ ap (λ (n : ℕ). chain_steps (slice_index_or c.args.prefixes.now l []) (slice_index c.args.from.now l) n (slice_index_or c.args.starts.now l [])) over in
    below_eight _
    (c.store.ensures ∙ held 0 (lit< tt))
    (c.store-2.ensures ∙ held 1 (lit< tt))
    (c.store-3.ensures ∙ held 2 (lit< tt))
    (c.store-4.ensures ∙ held 3 (lit< tt))
    (c.store-5.ensures ∙ held 4 (lit< tt))
    (c.store-6.ensures ∙ held 5 (lit< tt))
    (c.store-7.ensures ∙ held 6 (lit< tt))
    (c.store-8.ensures ∙ held 7 (lit< tt))
