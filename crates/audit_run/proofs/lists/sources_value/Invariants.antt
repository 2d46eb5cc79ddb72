use Rattle.std.proofs.Common.{◌≡◌, take}
use Rattle.std.specs.Prelude.{map}
use Rattle.serde_json.specs.View.{view}
use Rattle.audit_run.specs.Data.{source_data}
use Rattle.audit_run.proofs.lists.sources_value.Given as goal

abbrev pub invariant-loop-source : goal.invariant-loop-source
invariant-loop-source l = map view l.list.items ≡ map source_data (take l.source-index l.sources)
