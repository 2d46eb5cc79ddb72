use Rattle.std.proofs.Common.{◌≡◌, length, take}
use Rattle.std.specs.List.{AllZip}
use Rattle.audit_picture.specs.Lanes.{IsCulpritOf}
use Rattle.audit_picture.proofs.placing.culprits_of.Given as goal

abbrev pub invariant-loop-verdict : goal.invariant-loop-verdict
invariant-loop-verdict l = record {
  each : AllZip IsCulpritOf (take l.verdict-index l.verdicts) l.culprits.items;
  count : length l.culprits.items ≡ l.verdict-index;
}
