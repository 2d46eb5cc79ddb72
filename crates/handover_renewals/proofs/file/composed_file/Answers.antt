use Rattle.std.proofs.Common.{◌≡◌, List, ℕ, ap, drop, length, sym, ◌∙◌, arith, rules}
use Rattle.std.proofs.lemmas.List.{take_at}
use Rattle.std.proofs.lemmas.List.Elements.{same_from_all_zip}
use Rattle.handover_renewals.specs.Endorsed.{endorsement_of, texts_of}
use Rattle.handover_renewals.specs.Composing.{file_upto, with_slot}
use Rattle.handover_renewals.proofs.Composed.{file_more, file_none}
use Rattle.handover_renewals.proofs.file.composed_file.Goals as goal

pub loop-s-init : goal.loop-s-init
loop-s-init c =
    let same : c.in_ok-file.file.items ≡ c.args.old.now = search (rules, same_from_all_zip) in
    record { file = same ∙ sym (file_none c.args.old.now (texts_of c.args.endorsements.now)); long = ap (λ (t : List ℕ). length t) same }

pub loop-s-preserved : goal.loop-s-preserved
loop-s-preserved c =
    let old = c.args.old.now in
    let es = texts_of c.args.endorsements.now in
    let new = c.renew_slot.new.file in
    let as_long : length new ≡ c.loop-s.file.len = omega arith in
    let whole = take_at new (drop (length new) c.loop-s.file.items) c.loop-s.file.len as_long in
    let is = whole ∙ c.renew_slot.ensures in
    record {
      file =
          is ∙ ap (λ (t : List ℕ). with_slot old t c.loop-s.s (endorsement_of es c.loop-s.s)) (c.deref_mut.ensures.value ∙ c.loop-s.invariant.file)
          ∙ file_more old es c.loop-s.s;
      long = let before = c.loop-s.invariant.long in omega (arith, ap (λ (t : List ℕ). length t) whole);
    }

pub returns-clause-file : goal.returns-clause-file
returns-clause-file c =
    let end : c.loop-s.s ≡ c.n-s-end.result = omega arith in
    c.loop-s.invariant.file ∙ ap (file_upto c.args.old.now (texts_of c.args.endorsements.now)) (end ∙ c.n-s-end.ensures.value)
