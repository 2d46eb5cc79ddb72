-- A renewal, a file and a light proof that one body spells.
use Rattle.std.specs.Prelude.{◌<◌, ◌^◌, ℕ, List, [], Option, Some, None, length}
use Rattle.blocks.specs.Committees.{IsCommittee}
use Rattle.signer_calls.specs.Pairs.{SpellsPair}

-- each behind its length, and nothing behind the last
pub record SpellsThree (body renewal file proof : List ℕ) : Type 0 where
  pub rest : List ℕ
  pub last : List ℕ
  pub first : SpellsPair body renewal rest
  pub second : SpellsPair rest file last
  pub third : SpellsPair last proof []

-- the body spells no three
abbrev pub SpellsNoThree : List ℕ → Type 0
SpellsNoThree body = (renewal file proof : List ℕ) → SpellsThree body renewal file proof → ⊥

-- all three; or, of a body that spells no three, a renewal and a file
abbrev pub SpellsOver : (body renewal file : List ℕ) → Option (List ℕ) → Type 0
SpellsOver body renewal file (Some proof) = SpellsThree body renewal file proof
SpellsOver body renewal file None = SpellsNoThree body × SpellsPair body renewal file

-- a renewal and a committee's file are never read as three: no body is so long as the file's first bytes would say
abbrev pub ACommitteesFileIsReadAsOne : Type 0
ACommitteesFileIsReadAsOne =
    (body renewal file : List ℕ) → SpellsPair body renewal file → IsCommittee file → length body < 2 ^ 30 → SpellsOver body renewal file None
