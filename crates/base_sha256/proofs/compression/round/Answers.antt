use Rattle.base_sha256.proofs.LaneLemmas.{slice_index-lane}
use Rattle.base_sha256.proofs.VectorLemmas.{slice_index-eight}
use Rattle.std.proofs.Common.{refl}
use Rattle.base_sha256.proofs.compression.round.Goals as goal

pub returns : goal.returns
returns c l lt =
    let v = c.args.v in
    rw (
      c.add-5.ensures l lt,
      c.add-4.ensures l lt,
      c.add-temp2.ensures l lt,
      c.maj-majority.ensures l lt,
      c.big_sigma0-sum0.ensures l lt,
      c.add-temp1.ensures l lt,
      c.add-3.ensures l lt,
      c.add-2.ensures l lt,
      c.add.ensures l lt,
      slice_index-eight c.args.constant l lt,
      c.ch-choice.ensures l lt,
      c.big_sigma1-sum1.ensures l lt,
      slice_index-lane v l 0,
      slice_index-lane v l 1,
      slice_index-lane v l 2,
      slice_index-lane v l 3,
      slice_index-lane v l 4,
      slice_index-lane v l 5,
      slice_index-lane v l 6,
      slice_index-lane v l 7,
    )
    refl
