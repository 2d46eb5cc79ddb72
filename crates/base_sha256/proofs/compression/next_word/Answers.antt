use Rattle.std.proofs.Common.{◌≡◌, ◌%◌, ◌+◌, refl, arith}
use Rattle.base_sha256.proofs.LaneLemmas.{slice_index-lane, lane-set}
use Rattle.base_sha256.proofs.compression.next_word.Goals as goal

pub returns-clause-value : goal.returns-clause-value
returns-clause-value c l lt =
    let ring = c.args.ring.now in
    let p = c.args.place in
    let at : p % 16 ≡ p = omega arith in
    rw (
      at,
      c.add-word.ensures l lt,
      c.add-2.ensures l lt,
      c.add.ensures l lt,
      c.small_sigma1-late.ensures l lt,
      c.small_sigma0-early.ensures l lt,
      slice_index-lane ring l ((p + 14) % 16),
      slice_index-lane ring l ((p + 9) % 16),
      slice_index-lane ring l ((p + 1) % 16),
      slice_index-lane ring l p,
    )
    refl

pub returns-clause-ring : goal.returns-clause-ring
returns-clause-ring c l lt = lane-set c.args.ring.now l c.args.place c.add-word.result
