-- What the checker says of a verdict that it accepts.
use Rattle.std.specs.Prelude.{◌≡◌, ℕ, List}
use Rattle.verdict_format.specs.RuleNumbers.{rule_number}
use Rattle.verdict_format.specs.Verdicts.{verdict_kind_in, replica_in, later_in}
use Rattle.verdict_checker.specs.declared.checker.Finding.{Finding}

-- the replica, the rule and the later vote's view of the verdict
pub record IsFindingOf (bytes : List ℕ) (finding : Finding) : Type 0 where
  pub replica : finding.replica ≡ replica_in bytes
  pub rule : rule_number finding.rule ≡ verdict_kind_in bytes
  pub view : finding.view ≡ (later_in bytes).view
