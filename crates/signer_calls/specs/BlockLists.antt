-- Blocks that one body spells, behind each other.
use Rattle.std.specs.Prelude.{◌≡◌, ◌≢◌, ◌≤◌, ℕ, List, [], ◌∷◌, length}
use Rattle.signer_calls.specs.Pairs.{SpellsPair}
use Rattle.signer_calls.specs.declared.block_list.TheConstants.{MOST_BLOCKS_AT_ONCE}

-- each behind its length, and nothing behind the last
abbrev pub SpellsEach : List ℕ → List (List ℕ) → Type 0
SpellsEach body [] = body ≡ []
SpellsEach body (block ∷ blocks) = (rest : List ℕ) × SpellsPair body block rest × SpellsEach rest blocks

-- 1 to 64 of them
pub record SpellsBlocks (body : List ℕ) (blocks : List (List ℕ)) : Type 0 where
  pub each : SpellsEach body blocks
  pub some : blocks ≢ []
  pub few : length blocks ≤ MOST_BLOCKS_AT_ONCE

-- the body spells none, or too many
abbrev pub SpellsNoBlocks : List ℕ → Type 0
SpellsNoBlocks body = (blocks : List (List ℕ)) → SpellsBlocks body blocks → ⊥
