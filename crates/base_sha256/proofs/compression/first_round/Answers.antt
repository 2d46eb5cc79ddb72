use Rattle.std.proofs.Common.{◌∙◌, refl}
use Rattle.sha2.proofs.Schedule256.{rounds_next, slice_index-schedule_first}
use Rattle.sha2.specs.Sha256.{schedule}
use Rattle.base_sha256.proofs.compression.first_round.Goals as goal

pub returns : goal.returns
returns c l lt b h word held =
    let t = c.args.t in
    c.round.ensures l lt
    ∙ rw (word, held, rounds_next h (schedule b 48) t, slice_index-schedule_first b 48 t c.requires) refl
