-- Laws of committees of which each renews the one before it, by induction over them.
use Rattle.std.proofs.Common.{◌<◌, [], ◌∷◌, refl, ◌∙◌, arith}
use Rattle.blocks.specs.Committees.{n_of}
use Rattle.handover_renewals.proofs.Kept.{each_set, each_slot, quorum_same}
use Rattle.handover_folder.specs.Renewed.{AQuorumIsTheSameInTheLast, EachSetWeighsTheSameInTheLast, EachSlotIsHandedOn, TheLastHasAsMany}

pub handed_on : EachSlotIsHandedOn
handed_on first [] was are s below = tt
handed_on first (next ∷ later) was are s below =
    let size = are.0.renews.slots.shape.one_size.size in
    let inside : s < n_of next.file = omega (arith, size) in
    (each_slot first next.file next.renewal was are.0.committee are.0.renews s inside, handed_on next.file later are.0.committee are.1 s inside)

pub as_many : TheLastHasAsMany
as_many first [] are = refl
as_many first (next ∷ later) are = as_many next.file later are.1 ∙ are.0.renews.slots.shape.one_size.size

pub last_weight : EachSetWeighsTheSameInTheLast
last_weight first [] are passes = refl
last_weight first (next ∷ later) are passes = last_weight next.file later are.1 passes ∙ each_set first next.file next.renewal are.0.renews passes

pub last_quorum : AQuorumIsTheSameInTheLast
last_quorum first [] are = refl
last_quorum first (next ∷ later) are = last_quorum next.file later are.1 ∙ quorum_same first next.file next.renewal are.0.renews
