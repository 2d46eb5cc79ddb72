use Rattle.std.proofs.Common.{◌∷◌, [], ℕ, Some, sym, subst, ◌∙◌, arith}
use Rattle.std.proofs.lemmas.Bool.{false≢true}
use Rattle.blocks.specs.Committees.{keys_of}
use Rattle.handover_blocks.specs.OldKeys.{AreNewKeys}
use Rattle.handover_blocks.proofs.Below.{one_more_below}
use Rattle.handover_steps.specs.Least.{IsLeast}
use Rattle.handover_steps.specs.Successors.{IsExempt, IsTakenNumber}
use Rattle.handover_steps.proofs.TakenLaws.{found_of, none_of}
use Rattle.handover_steps.proofs.taken.least_of.Goals as goal

pub loop-slot-preserved-then-is_exempt : goal.loop-slot-preserved-then-is_exempt
loop-slot-preserved-then-is_exempt c =
    one_more_below (λ s. (IsExempt c.args.old.now c.args.new.now s → ⊥) → AreNewKeys c.args.before.now c.args.new.now s (keys_of c.args.new.now s))
    c.loop-slot.slot c.loop-slot.invariant (λ none. absurd (none (c.is_exempt.ensures.0 c.if-is_exempt.true)))

pub loop-slot-preserved : goal.loop-slot-preserved
loop-slot-preserved c =
    one_more_below (λ s. (IsExempt c.args.old.now c.args.new.now s → ⊥) → AreNewKeys c.args.before.now c.args.new.now s (keys_of c.args.new.now s))
    c.loop-slot.slot c.loop-slot.invariant (λ none. c.in_default.ensures.first)

pub returns-in-Some : goal.returns-in-Some
returns-in-Some c =
    let new = c.args.new.now in
    let value = c.n-slot-end.ensures.value in
    let inside = c.loop-slot-test.true in
    subst (λ (x : ℕ). IsLeast (IsTakenNumber (c.args.before.now ∷ []) c.args.old.now new) (Some x)) (sym c.key_number.ensures) (
    found_of c.args.before.now c.args.old.now new c.loop-slot.slot c.in-Some.k c.bytes-is_committee.ensures.is_committee (omega arith) c.in-Some.ensures.few
    (λ exempt. false≢true (sym c.if-is_exempt.false ∙ c.is_exempt.ensures.1 exempt)) c.loop-slot.invariant c.in-Some.ensures.first)

pub returns : goal.returns
returns c =
    let value = c.n-slot-end.ensures.value in
    let past = c.loop-slot-test.false in
    none_of c.args.before.now c.args.old.now c.args.new.now c.loop-slot.slot (omega arith) c.loop-slot.invariant
