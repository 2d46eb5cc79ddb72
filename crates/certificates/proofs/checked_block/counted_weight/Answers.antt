use Rattle.std.proofs.Common.{length, ap, arith}
use Rattle.certificates.proofs.checked_block.counted_weight.Goals as goal

pub overflow_add-weight : goal.overflow_add-weight
overflow_add-weight c =
    let entries = c.entries-entry-items.ensures in
    omega (arith, entries.is_certificate.most, ap length entries.value)
