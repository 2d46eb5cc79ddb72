use Rattle.std.proofs.Common.{arith, slice_index, w32}
use Rattle.std.proofs.lemmas.Simd.{Each1-get_or}
use mir.Val.{Fits}
use Rattle.base_sha256.proofs.Rotations.{rotated_three}
use Rattle.base_sha256.proofs.words.big_sigma1.Goals as goal

pub returns : goal.returns
returns c l lt =
    let long = c.fits-x.0 in
    let fits = Each1-get_or (Fits w32) c.args.x l 0 (omega arith) c.fits-x.1 in
    rw (c.rotate-3.ensures l lt, c.xor-2.ensures l lt, c.rotate-2.ensures l lt, c.xor.ensures l lt, c.rotate.ensures l lt)
    (rotated_three 32 (slice_index c.args.x l) 6 5 14 (omega arith) fits.fits)
