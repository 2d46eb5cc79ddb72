-- The verdicts that a watch knows.
use Rattle.std.specs.Prelude.{◌≡◌, ℕ, List, Bool, not, nat_eq, filter}
use Rattle.std.specs.List.{list_any}
use Rattle.verdict_format.specs.Proofs.{IsProof}
use Rattle.verdict_format.specs.Verdicts.{replica_in}

-- the bytes prove that this replica broke a rule
abbrev pub IsVerdictOn : (committee : List ℕ) → ℕ → List ℕ → Type 0
IsVerdictOn committee replica bytes = IsProof committee bytes × (replica_in bytes ≡ replica)

-- whether one of the verdicts is on the replica
abbrev pub is_named : List (List ℕ) → ℕ → Bool
is_named known replica = list_any (λ v. nat_eq (replica_in v) replica) known

-- those that are on replicas which none of the known ones is on
abbrev pub unnamed : (known verdicts : List (List ℕ)) → List (List ℕ)
unnamed known verdicts = filter (λ v. not (is_named known (replica_in v))) verdicts
