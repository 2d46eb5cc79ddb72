use Rattle.std.proofs.Common.{◌≡◌, ◌++◌, ap, sym, ◌∙◌, ℕ, arith}
use Rattle.std.specs.List.{flat_map}
use Rattle.std.specs.declared.alloc.Global.{Global}
use Rattle.std.specs.declared.vec.Vec.{Vec}
use Rattle.certificates.specs.Certificates.{endorsement_text}
use Rattle.handover_renewals.specs.Endorsed.{texts_of}
use Rattle.handover_renewals.specs.Composing.{seals_upto}
use Rattle.handover_renewals.proofs.Seals.{put_no_more, put_none, put_one}
use Rattle.handover_renewals.proofs.text.put_seals.Goals as goal
use Rattle.handover_renewals.proofs.text.put_seals.Goals.{in-Some+in_ok-put_seal, in_default}

pub loop-s-init : goal.loop-s-init
loop-s-init c = put_none (texts_of c.args.endorsements.now) c.args.text.now.items

pub loop-s-preserved : goal.loop-s-preserved
loop-s-preserved c =
    let es = texts_of c.args.endorsements.now in
    let before = c.args.text.now.items in
    elim c.match-endorsement_of.branch [
      | in-Some+in_ok-put_seal w ↦
          put_one es c.loop-s.s before c.loop-s.text.items c.match-endorsement_of.text.items w.in-Some.endorsement w.in-Some.ensures c.loop-s.invariant
          (ap (λ (v : Vec ℕ Global). v.items) w.text-is ∙ w.in_ok-put_seal.ensures)
      | in_default w ↦
          ap (λ (v : Vec ℕ Global). v.items) w.text-is
          ∙ put_no_more es c.loop-s.s before c.loop-s.text.items (sym c.endorsement_of.ensures ∙ w.in_default.is) c.loop-s.invariant
    ]

pub returns : goal.returns
returns c =
    let end : c.loop-s.s ≡ c.args.n = omega arith in
    c.loop-s.invariant ∙ ap (λ n. c.args.text.now.items ++ flat_map endorsement_text (seals_upto (texts_of c.args.endorsements.now) n)) end
