use Rattle.std.proofs.Common.{take}
use Rattle.std.specs.List.{All}
use Rattle.audit_commits.specs.Culprits.{BreakARule}
use Rattle.culprit_search.proofs.pairs.least_against.Given as goal

abbrev pub invariant-loop-v : goal.invariant-loop-v
invariant-loop-v l = All (λ x. BreakARule l.evidence x l.w → ⊥) (take l.v-index l.own)
