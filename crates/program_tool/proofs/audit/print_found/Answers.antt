use Rattle.std.proofs.Common.{refl}
use Rattle.program_tool.proofs.Endings.{said_so}
use Rattle.program_tool.proofs.audit.print_found.Goals as goal

pub returns-in-Ok-clause-printed : goal.returns-in-Ok-clause-printed
returns-in-Ok-clause-printed g c = said_so g.C.Connector _ _ c.args.committee.now _ _ _ _ _ c.in-Ok.ensures.printed c.in-Ok.ensures.printed.are.0 refl
