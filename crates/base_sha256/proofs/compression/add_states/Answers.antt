use Rattle.base_sha256.proofs.LaneLemmas.{slice_index-lane}
use Rattle.std.proofs.Common.{refl}
use Rattle.base_sha256.proofs.compression.add_states.Goals as goal

pub returns : goal.returns
returns c l lt =
    let h = c.args.h in
    let v = c.args.v in
    rw (
      c.add.ensures l lt,
      c.add-2.ensures l lt,
      c.add-3.ensures l lt,
      c.add-4.ensures l lt,
      c.add-5.ensures l lt,
      c.add-6.ensures l lt,
      c.add-7.ensures l lt,
      c.add-8.ensures l lt,
      slice_index-lane h l 0,
      slice_index-lane h l 1,
      slice_index-lane h l 2,
      slice_index-lane h l 3,
      slice_index-lane h l 4,
      slice_index-lane h l 5,
      slice_index-lane h l 6,
      slice_index-lane h l 7,
      slice_index-lane v l 0,
      slice_index-lane v l 1,
      slice_index-lane v l 2,
      slice_index-lane v l 3,
      slice_index-lane v l 4,
      slice_index-lane v l 5,
      slice_index-lane v l 6,
      slice_index-lane v l 7,
    )
    refl
