-- Commits among certified headers that are known.
use Rattle.std.specs.Prelude.{◌≡◌, ◌≢◌, ◌+◌, List}
use Rattle.std.specs.Cmp.Lexicographic.{slice_cmp}
use Rattle.std.specs.List.{Any}
use Rattle.std.specs.List.Sorted.{IsSorted}
use Rattle.std.specs.Ordering.{nat_cmp}
use Rattle.std.specs.declared.cmp.Ordering.{Ordering}
use Rattle.blocks.specs.Headers.{Header, NamesParent, header_id}
use Rattle.ancestry.specs.Known.{Known, IsLinkedId}

-- the order of headers by the id of the parent that they name
abbrev pub parent_cmp : Header → Header → Ordering
parent_cmp a b = slice_cmp nat_cmp a.parent b.parent

-- no header names a lower one than a header before it
abbrev pub ParentsRise : List Header → Type 0
ParentsRise = IsSorted parent_cmp

-- h is on b, and in the view after
abbrev pub IsNext : Header → Header → Type 0
IsNext b h = NamesParent h b × (h.view ≡ b.view + 1)

-- one of these is
unfoldable pub HasNext : List Header → Header → Type 0
HasNext hs b = Any (IsNext b) hs

-- one of these is, and another is on that one
unfoldable pub HasTwoNext : List Header → Header → Type 0
HasTwoNext hs b = Any (λ h. IsNext b h × HasNext hs h) hs

-- b is not genesis, has a chain, and two blocks in the views after its own
pub record IsCommitAmong (known : Known) (b : Header) : Type 0 where
  pub no_genesis : b ≢ known.genesis
  pub linked : IsLinkedId known (header_id b)
  pub next : HasTwoNext known.headers b
