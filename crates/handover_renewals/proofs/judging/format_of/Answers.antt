use Rattle.std.proofs.Common.{ℕ, List, ap, length, arith}
use Rattle.blocks.proofs.CommitteeLaws.{size_of}
use Rattle.handover_renewals.proofs.judging.format_of.Goals as goal

pub array_at-requires : goal.array_at-requires
array_at-requires c =
    let eight = (size_of c.args.committee.now c.bytes.ensures.is_committee).eight in
    omega (arith, ap (λ (t : List ℕ). length t) c.bytes.ensures.text, eight)
