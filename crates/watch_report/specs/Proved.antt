-- A verdict that proves what it says.
use Rattle.std.specs.Prelude.{ℕ, List}
use Rattle.verdict_format.specs.Proofs.{IsProof}
use Rattle.verdict_format.specs.Verdicts.{earlier_in, later_in, verdict_kind_in}
use Rattle.watch_report.specs.declared.proved.Pair.{Pair}

-- the checker accepts the bytes under the file of some committee: the one whose chain they name
abbrev pub IsProved : List ℕ → Type 0
IsProved bytes = (committee : List ℕ) × IsProof committee bytes

-- the rule that was broken, and the two votes that break it
abbrev pub pair_in : List ℕ → Pair
pair_in bytes = record { rule = verdict_kind_in bytes; earlier = earlier_in bytes; later = later_in bytes }
