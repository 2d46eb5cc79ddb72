use Rattle.std.proofs.Common.{ℕ, ◌≡◌, ◌≤◌, ◌+◌, ◌-◌, ◌∙◌, length, sym, ap, arith, subst}
use Rattle.blocks.specs.Committees.{n_of, place_of}
use Rattle.blocks.proofs.CommitteeLaws.{place_within}
use Rattle.blocks.proofs.committee.CommitteeView.weight_of.Goals as goal

pub weight_of-requires-clause-place : goal.weight_of-requires-clause-place
weight_of-requires-clause-place g c =
    let bytes = c.self.inside.bytes.now in
    let n = c.n.result in
    let same : n ≡ n_of bytes = c.n.ensures.value ∙ sym (ap n_of c.self.view_is) in
    let last : n - 1 + 1 ≡ n = omega (arith, c.n.ensures.least) in
    subst (λ (k : ℕ). place_of bytes k ≤ length bytes) last
    (place_within bytes (n - 1) c.self.invariant.0 (omega (arith, c.n.ensures.least, same)))
