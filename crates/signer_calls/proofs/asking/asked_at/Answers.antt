use Rattle.std.proofs.Common.{sym}
use Rattle.signer_calls.proofs.asking.asked_at.Goals as goal

pub returns-in-Over : goal.returns-in-Over
returns-in-Over c = rw (c.in-Over.is, sym c.body-in-Over.ensures) c.over_asked.ensures
