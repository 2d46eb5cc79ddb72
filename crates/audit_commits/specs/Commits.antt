-- Which blocks evidence shows to be certified and committed, and which commits conflict (the commit rule is that
-- of chained HotStuff, PODC 2019: a three-chain of certified blocks in views one after the other).
use Rattle.std.specs.Prelude.{◌≡◌, ◌≢◌, ◌⊎◌, ◌↔◌, ◌≤◌, ◌+◌, ◌&&◌, ℕ, List, ◌∷◌, Bool, nat_eq}
use Rattle.std.specs.Cmp.Lexicographic.{slice_cmp}
use Rattle.std.specs.List.{AllPairs, Contains, list_any}
use Rattle.std.specs.Ordering.{nat_cmp, ordering_then}
use Rattle.std.specs.Str.{bytes_eq}
use Rattle.std.specs.declared.cmp.Ordering.{Ordering}
use Rattle.std.specs.declared.cmp.Ordering.TheVariants.{Less}
use Rattle.blocks.specs.Headers.{Header, NamesParent, header_id}
use Rattle.blocks.specs.Chains.{IsChain, Conflict}
use Rattle.certificates.specs.declared.vote.SignedVote.{SignedVote}
use Rattle.audit_evidence.specs.Evidence.{Evidence}
use Rattle.blocks.specs.Weights.{Committee, weight_of}

-- ---- certified blocks

-- the vote is this replica's, on this view and id
abbrev pub is_vote_on : ℕ → List ℕ → ℕ → SignedVote → Bool
is_vote_on view id r v = nat_eq v.replica r && (nat_eq v.view view && bytes_eq v.id id)

-- one of the votes is
abbrev pub has_vote : List SignedVote → ℕ → List ℕ → ℕ → Bool
has_vote votes view id r = list_any (is_vote_on view id r) votes

-- the replicas that voted for b are a quorum
unfoldable pub IsCertified : Committee → Evidence → Header → Type 0
IsCertified c e b = c.quorum ≤ weight_of c.weight (has_vote e.votes b.view (header_id b)) c.size

-- b is in evidence, and certified unless it is genesis
pub record Stands (c : Committee) (e : Evidence) (b : Header) : Type 0 where
  pub known : Contains e.headers b
  pub certified : b ≢ c.genesis → IsCertified c e b

-- ---- commits

-- b is not genesis, stands with its whole chain, and is committed by two blocks that stand in the two views after
-- its own, each on the block before
pub record IsProvedCommit (c : Committee) (e : Evidence) (b : Header) : Type 0 where
  pub no_genesis : b ≢ c.genesis
  pub chain : List Header
  pub is_chain : IsChain c.genesis b chain
  pub chain_stands : (h : Header) → Contains (b ∷ chain) h → Stands c e h
  pub second : Header
  pub second_parent : NamesParent second b
  pub second_view : second.view ≡ b.view + 1
  pub second_stands : Stands c e second
  pub third : Header
  pub third_parent : NamesParent third second
  pub third_view : third.view ≡ b.view + 2
  pub third_stands : Stands c e third

-- ---- their order

-- by view, then by id
abbrev pub block_cmp : Header → Header → Ordering
block_cmp b c = ordering_then (nat_cmp b.view c.view) (slice_cmp nat_cmp (header_id b) (header_id c))

abbrev pub IsLowerBlock : Header → Header → Type 0
IsLowerBlock b c = block_cmp b c ≡ Less

-- all proved commits, rising
pub record AreProvedCommits (c : Committee) (e : Evidence) (commits : List Header) : Type 0 where
  pub rising : AllPairs IsLowerBlock commits
  pub exact : (b : Header) → Contains commits b ↔ IsProvedCommit c e b

-- ---- conflicts

-- two proved commits conflict, the lower one first
pub record AreConflicting (c : Committee) (e : Evidence) (a b : Header) : Type 0 where
  pub first : IsProvedCommit c e a
  pub second : IsProvedCommit c e b
  pub in_order : IsLowerBlock a b
  pub conflict : Conflict e.headers c.genesis a b

-- a is not above b
abbrev pub IsAtMost : Header → Header → Type 0
IsAtMost a b = (a ≡ b) ⊎ IsLowerBlock a b

-- .. and no others with a lower first, or with this one as the first and a lower second
pub record AreFirstConflict (c : Committee) (e : Evidence) (a b : Header) : Type 0 where
  pub conflicting : AreConflicting c e a b
  pub least_first : (x y : Header) → AreConflicting c e x y → IsAtMost a x
  pub least_second : (y : Header) → AreConflicting c e a y → IsAtMost b y

-- no two proved commits conflict
abbrev pub HasNoConflict : Committee → Evidence → Type 0
HasNoConflict c e =
    (a b : Header) → IsProvedCommit c e a → IsProvedCommit c e b → Conflict e.headers c.genesis a b → ⊥
