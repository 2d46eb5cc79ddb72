use Rattle.std.proofs.Common.{arith, ◌∙◌, slice_index, w32}
use Rattle.std.proofs.lemmas.Simd.{Each1-get_or}
use mir.Val.{Fits}
use Rattle.base_sha256.proofs.BlockLemmas.{top_byte}
use Rattle.base_sha256.proofs.VectorLemmas.{shifted_right}
use Rattle.base_sha256.proofs.words.first_byte.Goals as goal

pub returns : goal.returns
returns c l lt =
    let long = c.fits-x.0 in
    let fits = Each1-get_or (Fits w32) c.args.x l 0 (omega arith) c.fits-x.1 in
    shifted_right 24 c.args.x long l lt ∙ top_byte (slice_index c.args.x l) fits.fits
