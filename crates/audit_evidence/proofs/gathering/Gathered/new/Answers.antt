use Rattle.std.proofs.Common.{◌∙◌}
use Rattle.audit_evidence.proofs.Gatherings.{only_one}
use Rattle.audit_evidence.proofs.gathering.Gathered.new.Goals as goal

pub returns-clause-headers : goal.returns-clause-headers
returns-clause-headers g c = only_one c.new-headers.result c.insert.new.self c.in_ok-new.field-0 _ c.new-headers.ensures (c.in_ok-new.ensures ∙ c.of.ensures ∙ c.genesis.ensures.value) c.in_ok-insert.ensures.ok
