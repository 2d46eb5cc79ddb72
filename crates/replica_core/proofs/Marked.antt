-- A walk from a held header down its chain, for the first marked one.
use Rattle.std.proofs.Common.{◌≡◌, ◌⊎◌, ℕ, ◌<◌, ◌≤◌, List, [], ◌∷◌, sym, ◌∙◌, ap, subst, inl, inr, arith}
use Rattle.std.specs.Prelude.{Option, None, Some, MatchOption}
use Rattle.std.specs.List.{Contains}
use Rattle.std.proofs.lemmas.List.Elements.{Contains-append_right, Contains-append_cases}
use Rattle.blocks.specs.Headers.{Header}
use Rattle.blocks.specs.Chains.{IsChainIn, NoCollision}
use Rattle.replica_core.specs.Cores.{Core, IsHeaderTree}
use Rattle.replica_core.specs.Marks.{IsMarked, IsInChain, HasNoMarked, HasNoMarkedIn, IsFirstMarked, IsFirstMarkedIn}
use Rattle.replica_core.specs.Tables.{HasId}
use Rattle.replica_core.specs.Plans.{IsHeldParent}
use Rattle.replica_core.proofs.Trees.{AllIn-cons, AllIn-rest, Contains-first, one_of_id, only_one}

head_or_later : (x : Header) (xs : List Header) (y : Header) → Contains (x ∷ xs) y → (x ≡ y) ⊎ Contains xs y
head_or_later x xs y m = elim (Contains-append_cases (x ∷ []) xs y m) [ inl o ↦ inl (only_one x y o) | inr r ↦ inr r ]

-- ---- what stands in a chain

pub in_own_chain : (c : Core) (h : Header) → IsHeaderTree c.genesis c.headers → Contains c.headers h → IsInChain c h h
in_own_chain c h t m = let l = t.linked h m in (l.0, l.1, Contains-first h l.0)

in_chain_up : (c : Core) (h p k : Header) → Contains c.headers h → IsHeldParent c h p → IsInChain c p k → IsInChain c h k
in_chain_up c h p k m n i =
    (p ∷ i.0, ((n.names, n.older, i.1.0), AllIn-cons c.headers h (p ∷ i.0) m i.1.1), Contains-append_right (h ∷ []) (p ∷ i.0) k i.2)

parent_in_chain : (c : Core) (h p : Header) → IsHeaderTree c.genesis c.headers → Contains c.headers h → IsHeldParent c h p → IsInChain c h p
parent_in_chain c h p t m n = in_chain_up c h p p m n (in_own_chain c p t n.held)

-- down to the parent
below_at : (c : Core) (h p k : Header) (ps : List Header) → NoCollision c.headers → IsHeldParent c h p → IsChainIn c.headers c.genesis h ps → Contains (h ∷ ps) k → (h ≡ k) ⊎ IsInChain c p k
below_at c h p k [] apart n chain m = inl (only_one h k m)
below_at c h p k (q ∷ qs) apart n chain m =
    let rest = AllIn-rest c.headers h (q ∷ qs) chain.1 in
    let same : q ≡ p = apart q p (rest q (Contains-first q qs)) n.held (sym chain.0.0.id ∙ n.names.id) in
    elim (head_or_later h (q ∷ qs) k m) [
      | inl here ↦ inl here
      | inr later ↦ inr (subst (λ (x : Header). IsInChain c x k) same (qs, (chain.0.2, rest), later))
    ]

in_chain_below : (c : Core) (h p k : Header) → NoCollision c.headers → IsHeldParent c h p → IsInChain c h k → (h ≡ k) ⊎ IsInChain c p k
in_chain_below c h p k apart n i = below_at c h p k i.0 apart n i.1 i.2

-- a chain that goes on at what stands in it
trans_at : (c : Core) (a b k : Header) (ps : List Header) → IsChainIn c.headers c.genesis a ps → Contains (a ∷ ps) b → IsInChain c b k → IsInChain c a k
trans_at c a b k [] chain m i = subst (λ (x : Header). IsInChain c x k) (sym (only_one a b m)) i
trans_at c a b k (q ∷ qs) chain m i =
    let rest = AllIn-rest c.headers a (q ∷ qs) chain.1 in
    elim (head_or_later a (q ∷ qs) b m) [
      | inl here ↦ subst (λ (x : Header). IsInChain c x k) (sym here) i
      | inr later ↦ (let j = trans_at c q b k qs (chain.0.2, rest) later i in
          in_chain_up c a q k (chain.1 a (Contains-first a (q ∷ qs))) (record { held = rest q (Contains-first q qs); names = chain.0.0; older = chain.0.1 }) j)
    ]

in_chain_trans : (c : Core) (a b k : Header) → IsInChain c a b → IsInChain c b k → IsInChain c a k
in_chain_trans c a b k i j = trans_at c a b k i.0 i.1 i.2 j

-- genesis' chain has nothing else
alone_at : (c : Core) (h k : Header) (ps : List Header) → h.view ≡ 0 → IsChainIn c.headers c.genesis h ps → Contains (h ∷ ps) k → h ≡ k
alone_at c h k [] zero chain m = only_one h k m
alone_at c h k (q ∷ qs) zero chain m = let l = chain.0.1 in absurd (omega arith)

-- ---- the walk

-- all marked headers in the tip's chain are below, or not below the best one so far
abbrev pub AreSeen : Core → List ℕ → (tip at : Header) → Option Header → Type 0
AreSeen c mark tip at first =
    MatchOption first ((k : Header) → IsInChain c tip k → IsMarked mark k → IsInChain c at k)
    (λ b. IsInChain c tip b × IsMarked mark b × (at.view < b.view)
    × ((k : Header) → IsInChain c tip k → IsMarked mark k → IsInChain c at k ⊎ (b.view ≤ k.view)))

pub record Walked (c : Core) (mark : List ℕ) (tip at : Header) (first : Option Header) : Type 0 where
  pub held : Contains c.headers at
  pub leads : IsInChain c tip at
  pub seen : AreSeen c mark tip at first

pub begins : (c : Core) (mark : List ℕ) (tip : Header) → IsHeaderTree c.genesis c.headers → Contains c.headers tip → Walked c mark tip tip None
begins c mark tip t m = record { held = m; leads = in_own_chain c tip t m; seen = λ k i is. i }

seen_marked : (c : Core) (mark : List ℕ) (tip at p : Header) (first : Option Header) → IsHeaderTree c.genesis c.headers → IsHeldParent c at p → IsInChain c tip at → IsMarked mark at → AreSeen c mark tip at first → AreSeen c mark tip p (Some at)
seen_marked c mark tip at p None t n leads is seen = (
  leads,
  is,
  n.older,
  λ k i m. (elim (in_chain_below c at p k t.apart n (seen k i m)) [
    | inl e ↦ (let v = ap (λ (h : Header). h.view) e in inr (omega arith))
    | inr below ↦ inl below
  ]),
)
seen_marked c mark tip at p (Some b) t n leads is seen = (
  leads,
  is,
  n.older,
  λ k i m. (elim (seen.3 k i m) [
    | inl here ↦ elim (in_chain_below c at p k t.apart n here) [
      | inl e ↦ (let v = ap (λ (h : Header). h.view) e in inr (omega arith))
      | inr below ↦ inl below
    ]
    | inr high ↦ (let l = seen.2 in inr (omega arith))
  ]),
)

unmarked_below : (c : Core) (mark : List ℕ) (at p k : Header) → IsHeaderTree c.genesis c.headers → IsHeldParent c at p → (IsMarked mark at → ⊥) → IsInChain c at k → IsMarked mark k → IsInChain c p k
unmarked_below c mark at p k t n not i m =
    elim (in_chain_below c at p k t.apart n i) [
      | inl e ↦ absurd (not (subst (λ (h : Header). IsMarked mark h) (sym e) m))
      | inr below ↦ below
    ]

seen_unmarked : (c : Core) (mark : List ℕ) (tip at p : Header) (first : Option Header) → IsHeaderTree c.genesis c.headers → IsHeldParent c at p → (IsMarked mark at → ⊥) → AreSeen c mark tip at first → AreSeen c mark tip p first
seen_unmarked c mark tip at p None t n not seen = λ k i m. unmarked_below c mark at p k t n not (seen k i m) m
seen_unmarked c mark tip at p (Some b) t n not seen = (
  seen.0,
  seen.1,
  (let l = seen.2 in let o = n.older in omega arith),
  λ k i m. (elim (seen.3 k i m) [
    | inl here ↦ inl (unmarked_below c mark at p k t n not here m)
    | inr high ↦ inr high
  ]),
)

pub goes_on_marked : (c : Core) (mark : List ℕ) (tip at p : Header) (first : Option Header) → IsHeaderTree c.genesis c.headers → IsHeldParent c at p → IsMarked mark at → Walked c mark tip at first → Walked c mark tip p (Some at)
goes_on_marked c mark tip at p first t n is w = record {
  held = n.held;
  leads = in_chain_trans c tip at p w.leads (parent_in_chain c at p t w.held n);
  seen = seen_marked c mark tip at p first t n w.leads is w.seen;
}

pub goes_on_unmarked : (c : Core) (mark : List ℕ) (tip at p : Header) (first : Option Header) → IsHeaderTree c.genesis c.headers → IsHeldParent c at p → (IsMarked mark at → ⊥) → Walked c mark tip at first → Walked c mark tip p first
goes_on_unmarked c mark tip at p first t n not w = record {
  held = n.held;
  leads = in_chain_trans c tip at p w.leads (parent_in_chain c at p t w.held n);
  seen = seen_unmarked c mark tip at p first t n not w.seen;
}

-- at genesis nothing is marked
none_at_genesis : (c : Core) (mark : List ℕ) (at k : Header) → IsHeaderTree c.genesis c.headers → at ≡ c.genesis → IsInChain c at k → IsMarked mark k → ⊥
none_at_genesis c mark at k t e i m =
    let zero : at.view ≡ 0 = ap (λ (h : Header). h.view) e ∙ t.is_genesis.view in
    let v = ap (λ (h : Header). h.view) (alone_at c at k i.0 zero i.1 i.2) in
    let l = m.above in absurd (omega arith)

pub ends : (c : Core) (mark : List ℕ) (tip at : Header) (first : Option Header) → IsHeaderTree c.genesis c.headers → at ≡ c.genesis → Walked c mark tip at first → MatchOption first (HasNoMarked c mark tip) (IsFirstMarked c mark tip)
ends c mark tip at None t e w = λ k i m. none_at_genesis c mark at k t e (w.seen k i m) m
ends c mark tip at (Some b) t e w = record {
  place = w.seen.0;
  marked = w.seen.1;
  first = λ k i m. (elim (w.seen.3 k i m) [ inl here ↦ absurd (none_at_genesis c mark at k t e here m) | inr high ↦ high ]);
}

-- ---- by the tip's id

pub by_id : (c : Core) (mark id : List ℕ) (tip : Header) (r : Option Header) → IsHeaderTree c.genesis c.headers → HasId c.headers id tip → MatchOption r (HasNoMarked c mark tip) (IsFirstMarked c mark tip) → MatchOption r (HasNoMarkedIn c mark id) (IsFirstMarkedIn c mark id)
by_id c mark id tip None t m none = λ h n. subst (λ (x : Header). HasNoMarked c mark x) (sym (one_of_id c.headers id tip h t.apart m n)) none
by_id c mark id tip (Some b) t m first = (tip, m, first)
