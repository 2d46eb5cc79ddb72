use Rattle.std.proofs.Common.{◌≡◌, take}
use Rattle.std.specs.Prelude.{map}
use Rattle.serde_json.specs.View.{view}
use Rattle.audit_run.specs.Data.{commit_data}
use Rattle.audit_run.proofs.lists.commits_value.Given as goal

abbrev pub invariant-loop-commit : goal.invariant-loop-commit
invariant-loop-commit l = map view l.list.items ≡ map commit_data (take l.commit-index l.commits)
