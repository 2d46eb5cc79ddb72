-- The numbers of the voting rules, as verdicts and programs write them.
use Rattle.std.specs.Prelude.{ℕ}
use Rattle.verdict_format.specs.declared.verdict.Rule.{Rule}
use Rattle.verdict_format.specs.declared.verdict.Rule.TheVariants.{DoubleVote, LockViolation}

abbrev pub rule_number : Rule → ℕ
rule_number DoubleVote = 1
rule_number LockViolation = 2
