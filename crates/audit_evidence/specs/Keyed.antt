-- Headers by their ids.
use Rattle.std.specs.Prelude.{◌≡◌, List, ℕ}
use Rattle.std.specs.List.{AllByRecursion}
use Rattle.std.specs.Cmp.Lexicographic.{slice_cmp}
use Rattle.std.specs.Ordering.{nat_cmp}
use Rattle.std.specs.List.Sorted.{IsStrictlySortedBy}
use Rattle.std.specs.Map.{keys_of}
use Rattle.blocks.specs.Headers.{Header, header_id}
use Rattle.audit_evidence.specs.Evidence.{IsNotBelowParent}

abbrev pub IsUnderItsId : List ℕ × Header → Type 0
IsUnderItsId e = e.0 ≡ header_id e.1

abbrev pub IsKeptInOrder : List ℕ × Header → Type 0
IsKeptInOrder e = IsNotBelowParent e.1

-- headers beside their ids, which rise
pub record AreById (entries : List (List ℕ × Header)) : Type 0 where
  pub own : AllByRecursion IsUnderItsId entries
  pub in_order : AllByRecursion IsKeptInOrder entries
  pub rising : IsStrictlySortedBy (slice_cmp nat_cmp) (keys_of entries)
