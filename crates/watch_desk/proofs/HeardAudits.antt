-- What was heard of an audit.
use Rattle.std.proofs.Common.{List, ℕ}
use Rattle.std.specs.Prelude.{not}
use Rattle.std.specs.List.{All}
use Rattle.std.proofs.lemmas.List.Elements.{All-filter}
use Rattle.verdict_format.specs.Verdicts.{replica_in}
use Rattle.watch_desk.specs.Verdicts.{is_named, unnamed}

-- what is so of all verdicts is so of those on other replicas
pub unnamed_all : (P : List ℕ → Type 0) (known verdicts : List (List ℕ)) → All P verdicts → All P (unnamed known verdicts)
unnamed_all P known verdicts all = All-filter (λ v. not (is_named known (replica_in v))) P verdicts all
