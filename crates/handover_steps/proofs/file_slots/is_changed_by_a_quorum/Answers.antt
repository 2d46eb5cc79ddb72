use Rattle.std.proofs.Common.{◌≡◌, ◌≤◌, inl, inr, arith}
use Rattle.std.proofs.lemmas.Bool.{cases_lt, le-leb, leb-true}
use Rattle.blocks.specs.Weights.{quorum_of}
use Rattle.handover_steps.proofs.Decided.{not_a_quorum}
use Rattle.handover_steps.proofs.file_slots.is_changed_by_a_quorum.Goals as goal

pub returns : goal.returns
returns c =
    let old = c.args.old.now in
    let new = c.args.new.now in
    let weight = c.changed_weight.result in
    let is = c.changed_weight.ensures in
    let quorum : c.quorum.result ≡ quorum_of old = c.quorum.ensures.value in (
      λ t.
          let passed : c.quorum.result ≤ weight = leb-true c.quorum.result weight t in
          record { weight = weight; changed = is; enough = omega arith },
      λ changed. elim (cases_lt weight c.quorum.result) [
        | inl less ↦ absurd (not_a_quorum old new weight is (omega arith) changed)
        | inr enough ↦ le-leb c.quorum.result weight enough
      ],
    )
