-- The verdicts of files that were there when a watch began.
use Rattle.std.specs.Prelude.{◌≡◌, ◌++◌, ℕ, List, [], ◌∷◌, Bool, true, false}
use Rattle.watch_desk.specs.Verdicts.{IsVerdictOn}

-- the committee, and the verdicts that were accepted so far
pub record Kept : Type 0 where
  pub committee : List ℕ
  pub verdicts : List (List ℕ)

-- the bytes are one more of them just if they are a verdict on the replica
abbrev pub IsKeptAs : (old new : Kept) → (replica : ℕ) → (bytes : List ℕ) → Bool → Type 0
IsKeptAs old new replica bytes true = IsVerdictOn old.committee replica bytes × (new ≡ record { committee = old.committee; verdicts = old.verdicts ++ bytes ∷ [] })
IsKeptAs old new replica bytes false = (IsVerdictOn old.committee replica bytes → ⊥) × (new ≡ old)
