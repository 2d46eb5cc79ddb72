use Rattle.std.proofs.Common.{◌≡◌, ap, length, sym, ◌∙◌, arith}
use Rattle.handover_renewals.specs.Endorsed.{texts_of}
use Rattle.handover_renewals.specs.Composing.{seals_upto}
use Rattle.handover_renewals.proofs.Seals.{counted_none, counted_one, length-seals_upto, no_seals}
use Rattle.handover_renewals.proofs.text.count_upto.Goals as goal
use Rattle.handover_renewals.proofs.text.count_upto.Goals.{then-is_some, else-is_some}

pub loop-s-init : goal.loop-s-init
loop-s-init c = sym (no_seals (texts_of c.args.endorsements.now))

pub overflow_add-count : goal.overflow_add-count
overflow_add-count c =
    let so_far : c.loop-s.count ≡ length (seals_upto (texts_of c.args.endorsements.now) c.loop-s.s) = c.loop-s.invariant in
    omega (arith, length-seals_upto (texts_of c.args.endorsements.now) c.loop-s.s)

pub loop-s-preserved : goal.loop-s-preserved
loop-s-preserved c =
    let es = texts_of c.args.endorsements.now in
    elim c.if-is_some.branch [
      | then-is_some w ↦
          w.count-is ∙ counted_one es c.loop-s.s c.loop-s.count c.endorsement_of.result c.endorsement_of.ensures (sym c.is_some.ensures ∙ w.if-is_some.true) c.loop-s.invariant
      | else-is_some w ↦
          w.count-is ∙ counted_none es c.loop-s.s c.loop-s.count c.endorsement_of.result c.endorsement_of.ensures (sym c.is_some.ensures ∙ w.if-is_some.false) c.loop-s.invariant
    ]

pub returns : goal.returns
returns c =
    let end : c.loop-s.s ≡ c.args.n = omega arith in
    c.loop-s.invariant ∙ ap (λ n. length (seals_upto (texts_of c.args.endorsements.now) n)) end
