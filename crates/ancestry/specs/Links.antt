-- Known headers by their positions, and the links that an index keeps between them. No public clause speaks of them.
use Rattle.std.specs.Prelude.{◌≡◌, ◌<◌, ◌≤◌, ◌+◌, ◌⊎◌, ℕ, List, length, slice_index_or}
use Rattle.std.specs.List.{Any}
use Rattle.blocks.specs.Headers.{Header}
use Rattle.blocks.specs.Chains.{IsLinked}
use Rattle.ancestry.specs.Known.{Known, IsKnown, all_of}
use Rattle.ancestry.specs.Parents.{IsParent}
use Rattle.ancestry.specs.declared.links.ChainLink.{ChainLink}

-- the header at a position: those of the list, and behind them genesis
abbrev pub header_at : Known → ℕ → Header
header_at known n = slice_index_or known.headers n known.genesis

-- a chain of parents leads from b to a, all of them known; from each known header one leads to itself
abbrev pub LeadsTo : Known → Header → Header → Type 0
LeadsTo known b a = IsLinked (all_of known) a b

-- b names no known header for its parent
abbrev pub HasNoParent : Known → Header → Type 0
HasNoParent known b = Any (IsParent b) (all_of known) → ⊥

-- at p stands the parent of the header at n, or where it has none, no older header
abbrev pub IsParentAt : Known → ℕ → ℕ → Type 0
IsParentAt known n p =
    IsParent (header_at known n) (header_at known p)
    ⊎ (HasNoParent known (header_at known n) × ((header_at known n).view ≤ (header_at known p).view))

-- the link of the header at n: to its parent, and to a header to which its chain leads
pub record IsLink (known : Known) (n : ℕ) (link : ChainLink) : Type 0 where
  pub parent_in : link.parent ≤ length known.headers
  pub jump_in : link.jump ≤ length known.headers
  pub parent : IsParentAt known n link.parent
  pub jump : LeadsTo known (header_at known n) (header_at known link.jump)

-- each of these links is that of the header at its position
abbrev pub AreLinks : Known → List ChainLink → Type 0
AreLinks known links = (n : ℕ) (d : ChainLink) → n < length links → IsLink known n (slice_index_or links n d)

-- known headers, and a link for each of them
pub record IsIndex (k : Known) (links : List ChainLink) : Type 0 where
  pub known : IsKnown k
  pub count : length links ≡ length k.headers + 1
  pub each : AreLinks k links

-- from the header at n a step down to the view leads to an older header, past none of this view or a lower one
pub record IsStep (known : Known) (n : ℕ) (view : ℕ) (next : ℕ) : Type 0 where
  pub next_in : next ≤ length known.headers
  pub older : (header_at known next).view < (header_at known n).view
  pub leads : LeadsTo known (header_at known n) (header_at known next)
  pub past_none : (a : Header) → a.view ≤ view → LeadsTo known (header_at known n) a → LeadsTo known (header_at known next) a

-- from the header at n no chain leads to another header of this view or a higher one
abbrev pub IsEnd : Known → ℕ → ℕ → Type 0
IsEnd known n view = (a : Header) → view ≤ a.view → LeadsTo known (header_at known n) a → header_at known n ≡ a
