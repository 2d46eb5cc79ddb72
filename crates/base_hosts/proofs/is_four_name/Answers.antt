use Rattle.std.proofs.Common.{rules}
use Rattle.base_hosts.specs.HostRules.{IsFourName}
use Rattle.base_hosts.proofs.is_four_name.Goals as goal

pub returns-in-Err : goal.returns-in-Err
unfolding IsFourName
returns-in-Err c = (search rules, λ h. absurd (c.in-Err.ensures h.0 h.1))
