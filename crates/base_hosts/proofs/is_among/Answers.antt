use Rattle.std.proofs.Common.{rules, tests}
use Rattle.std.specs.Prelude.{string_bytes}
use Rattle.std.proofs.lemmas.Iterator.{YieldsList-from_slice}
use Rattle.std.proofs.lemmas.Iterator.Search.{any_from_yields_List}
use Rattle.base_hosts.specs.HostRules.{is_same_name}
use Rattle.base_hosts.proofs.is_among.Goals as goal

pub returns : goal.returns
returns c =
    any_from_yields_List (λ h. is_same_name (string_bytes h) c.args.name.now) _ _ _ c.any.ensures.ran (YieldsList-from_slice c.args.hosts.now cc)
    (λ x b q k. search (rules, tests))
