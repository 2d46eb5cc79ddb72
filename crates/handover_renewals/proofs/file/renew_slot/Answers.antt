use Rattle.std.proofs.Common.{List, ℕ, ap, length, sym, ◌∙◌, arith}
use Rattle.handover_renewals.specs.Endorsed.{endorsement_of, texts_of}
use Rattle.handover_renewals.proofs.Endorsing.{found_good}
use Rattle.handover_renewals.proofs.Composed.{keys_fit, slot_none, slot_put}
use Rattle.handover_renewals.proofs.Overwriting.{put_is}
use Rattle.handover_renewals.proofs.file.renew_slot.Goals as goal

pub put-requires : goal.put-requires
put-requires c =
    let es = texts_of c.args.endorsements.now in
    let good = found_good c.args.old.now es c.args.s c.in-Some.endorsement c.requires.good (sym c.in-Some.ensures) in
    omega (
      arith,
      c.keys_place.ensures,
      ap (λ (t : List ℕ). length t) c.stated_keys.ensures,
      keys_fit c.args.old.now c.args.file.now c.args.s c.in-Some.endorsement c.requires.was c.requires.place c.requires.long good,
    )

pub returns-in-Some : goal.returns-in-Some
returns-in-Some c =
    slot_put c.args.old.now c.args.file.now c.put.new.bytes c.stated_keys.result.now c.args.s c.keys_place.result c.in-Some.endorsement
    (endorsement_of (texts_of c.args.endorsements.now) c.args.s) c.in-Some.ensures c.keys_place.ensures c.stated_keys.ensures
    (put_is c.args.file.now c.put.new.bytes c.keys_place.result c.stated_keys.result.now c.put.ensures.written c.put.ensures.rest)

pub returns-in_default : goal.returns-in_default
returns-in_default c =
    slot_none c.args.old.now c.args.file.now c.args.s (endorsement_of (texts_of c.args.endorsements.now) c.args.s) (sym c.endorsement_of.ensures ∙ c.in_default.is)
