-- Pairs of blocks of a list that conflict.
use Rattle.std.specs.Prelude.{◌<◌, ℕ, List, length, get_or, take}
use Rattle.std.specs.List.{All, AllPairs, Contains}
use Rattle.blocks.specs.Headers.{Header}
use Rattle.blocks.specs.Chains.{Conflict, IsAncestor, IsLinked}
use Rattle.ancestry.specs.Known.{Known, all_of}
use Rattle.audit_commits.specs.Commits.{IsLowerBlock, IsAtMost}

-- two known blocks conflict
abbrev pub DoConflict : Known → Header → Header → Type 0
DoConflict known a b = Conflict (all_of known) known.genesis a b

-- .. or do not
abbrev pub Agree : Known → Header → Header → Type 0
Agree known a b = DoConflict known a b → ⊥

-- a and b have chains, and a does not stand in that of b
pub record IsNoAncestor (known : Known) (a b : Header) : Type 0 where
  pub first_linked : IsLinked (all_of known) known.genesis a
  pub second_linked : IsLinked (all_of known) known.genesis b
  pub not_above : IsAncestor (all_of known) known.genesis a b → ⊥

-- each of these blocks is an ancestor of all that follow
abbrev pub StandInOneChain : Known → List Header → Type 0
StandInOneChain known blocks = AllPairs (IsAncestor (all_of known) known.genesis) blocks

-- the first n of these blocks are ancestors of b
abbrev pub FirstAreAbove : Known → List Header → ℕ → Header → Type 0
FirstAreAbove known blocks n b = All (λ a. IsAncestor (all_of known) known.genesis a b) (take n blocks)

-- .. and of all blocks that follow them
abbrev pub IsTrunk : Known → List Header → ℕ → Type 0
IsTrunk known blocks n =
    (i j : ℕ) (d : Header) → i < n → i < j → j < length blocks
    → IsAncestor (all_of known) known.genesis (get_or blocks i d) (get_or blocks j d)

-- b is the least of these blocks that conflicts with a
pub record IsLeastConflictWith (known : Known) (a : Header) (blocks : List Header) (b : Header) : Type 0 where
  pub there : Contains blocks b
  pub conflict : DoConflict known a b
  pub least : (y : Header) → Contains blocks y → DoConflict known a y → IsAtMost b y

-- two of these blocks conflict, the lower one first
pub record AreConflictingIn (known : Known) (blocks : List Header) (a b : Header) : Type 0 where
  pub first : Contains blocks a
  pub second : Contains blocks b
  pub in_order : IsLowerBlock a b
  pub conflict : DoConflict known a b

-- .. and no others with a lower first, or with this one as the first and a lower second
pub record AreFirstIn (known : Known) (blocks : List Header) (a b : Header) : Type 0 where
  pub conflicting : AreConflictingIn known blocks a b
  pub least_first : (x y : Header) → AreConflictingIn known blocks x y → IsAtMost a x
  pub least_second : (y : Header) → AreConflictingIn known blocks a y → IsAtMost b y
