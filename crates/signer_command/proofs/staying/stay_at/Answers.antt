use Rattle.std.proofs.Common.{length}
use Rattle.signer_command.proofs.staying.stay_at.Goals as goal

pub returns-in-Ok-stay_once-clause-backed : goal.returns-in-Ok-stay_once-clause-backed
returns-in-Ok-stay_once-clause-backed g c =
    record { opened = length c.args.parts.log.steps; backed = c.in-Ok-stay_once.ensures.receipts }
