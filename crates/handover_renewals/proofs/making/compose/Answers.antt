use Rattle.std.proofs.Common.{List, ℕ, ap, ◌∙◌}
use Rattle.handover_renewals.specs.Slots.{slot_keys}
use Rattle.handover_renewals.specs.Endorsed.{texts_of}
use Rattle.handover_renewals.proofs.Composed.{slot_composed}
use Rattle.handover_renewals.proofs.making.compose.Goals as goal

pub returns-clause-slots : goal.returns-clause-slots
returns-clause-slots c =
    λ s below.
    ap (λ (file : List ℕ). slot_keys file s) c.in_ok-committee.ensures.file
    ∙ slot_composed c.args.old.now (texts_of c.args.endorsements.now) s c.composed_file.ensures.was c.in_ok-judge.ensures.ok.good below
