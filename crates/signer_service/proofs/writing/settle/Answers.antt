use mathlib.Core.List.{not-mem-nil}
use Rattle.signer_service.proofs.Settled.{settled}
use Rattle.signer_service.proofs.writing.settle.Goals as goal

pub truncate-requires : goal.truncate-requires
truncate-requires c κs = (λ a m. absurd (not-mem-nil m), λ a m. absurd (not-mem-nil m))

pub returns : goal.returns
returns c =
    let was = c.requires.0 in
    (record { status = was.status; headers = settled _ _ _ was.headers c.truncate.ensures.items; body = was.body }, c.requires.1)
