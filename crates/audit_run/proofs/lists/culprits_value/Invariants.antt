use Rattle.std.proofs.Common.{◌≡◌, take}
use Rattle.std.specs.Prelude.{map}
use Rattle.serde_json.specs.View.{view}
use Rattle.audit_run.specs.Data.{culprit_data}
use Rattle.audit_run.proofs.lists.culprits_value.Given as goal

abbrev pub invariant-loop-verdict : goal.invariant-loop-verdict
invariant-loop-verdict l = map view l.list.items ≡ map (culprit_data l.folder) (take l.verdict-index l.verdicts)
