use Rattle.std.proofs.Common.{◌≡◌, Option, Some, sym, ap, ◌∙◌}
use Rattle.base_wire.specs.Refusals.{first_of, or_else}
use Rattle.base_wire.proofs.Firsts.{first_at}
use Rattle.blocks.specs.declared.committee.CommitteeRefusal.{CommitteeRefusal}
use Rattle.blocks.specs.CommitteeReading.{same_key, same_key_of}
use Rattle.blocks.proofs.committee.twin_of.Goals as goal

pub returns-in-Some : goal.returns-in-Some
returns-in-Some c =
    let bytes = c.args.bytes.now in
    let s = c.args.of.replica in
    let l = c.args.of.key in
    let r = c.loop-r.r in
    let here : same_key_of bytes s l r ≡ Some c.in-Some.refusal =
    ap (first_of (same_key bytes s l r)) (sym c.keys_of-count.ensures) ∙ sym c.same_key.ensures ∙ c.in-Some.is in
    sym (
    ap (λ (o : Option CommitteeRefusal). or_else o (first_of (same_key bytes s l s) l))
    (first_at (same_key_of bytes s l) s r c.in-Some.refusal c.loop-r.invariant here c.loop-r-test.true))
