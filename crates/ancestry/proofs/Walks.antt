-- A walk from a header to genesis.
use Rattle.std.proofs.Common.{◌≡◌, ◌⊎◌, ◌↔◌, Bool, false, inl, inr, ℕ, ◌<◌, ◌≤◌, List, [], ◌∷◌, refl, sym, ◌∙◌, ap, subst, arith}
use Rattle.std.specs.List.{Any, Contains}
use Rattle.std.proofs.lemmas.Bool.{false≢true}
use Rattle.blocks.specs.Headers.{Header, IsGenesis, header_id}
use Rattle.blocks.specs.Chains.{IsChain, AllIn, IsChainIn, IsAncestor, IsLinked, NoCollision}
use Rattle.blocks.proofs.Members.{Has-from_Contains, Contains-from_Has, Contains-first, Contains-later}
use Rattle.ancestry.specs.Known.{Known, IsKnown, all_of, IsLinkedId, IsAncestorId}
use Rattle.ancestry.proofs.Ids.{apart, genesis_known}
use Rattle.std.specs.Prelude.{IsTrue}
use Rattle.ancestry.specs.Parents.{IsParent}

-- ---- lists

-- what stands in a list stands at its head or behind it
pub head_or_later : (x : Header) (xs : List Header) (y : Header) → Contains (x ∷ xs) y → (x ≡ y) ⊎ Contains xs y
head_or_later x xs y c = elim (Has-from_Contains (x ∷ xs) y c) [ inl here ↦ inl here | inr later ↦ inr (Contains-from_Has xs y later) ]

pub not_in_none : {X : Type 0} (y : X) → Contains [] y → ⊥
not_in_none y c = let l = c.1 in absurd (omega arith)

all_in_cons : (hs : List Header) (x : Header) (xs : List Header) → Contains hs x → AllIn hs xs → AllIn hs (x ∷ xs)
all_in_cons hs x xs c a y m =
    elim (head_or_later x xs y m) [
      | inl here ↦ subst (λ z. Contains hs z) here c
      | inr later ↦ a y later
    ]

all_in_tail : (hs : List Header) (x : Header) (xs : List Header) → AllIn hs (x ∷ xs) → AllIn hs xs
all_in_tail hs x xs a y m = a y (Contains-later x xs y m)

-- ---- chains

pub linked_genesis : (hs : List Header) (g : Header) → Contains hs g → IsLinked hs g g
linked_genesis hs g c = ([], (refl, all_in_cons hs g [] c (λ y m. absurd (not_in_none y m))))

-- what has a chain stands in the list
pub linked_there : (hs : List Header) (g b : Header) → IsLinked hs g b → Contains hs b
linked_there hs g b l = l.1.1 b (Contains-first b l.0)

-- a chain that goes on at the parent
pub chain_up : (hs : List Header) (g at p : Header) (ps : List Header) → Contains hs at → IsParent at p → IsChainIn hs g p ps → IsChainIn hs g at (p ∷ ps)
chain_up hs g at p ps c n chain = ((n.0, n.1, chain.0), all_in_cons hs at (p ∷ ps) c chain.1)

pub linked_up : (hs : List Header) (g at p : Header) → Contains hs at → IsParent at p → IsLinked hs g p → IsLinked hs g at
linked_up hs g at p c n l = (p ∷ l.0, chain_up hs g at p l.0 c n l.1)

-- the parent in a chain
pub record HasParent (hs : List Header) (g at p : Header) (ps : List Header) : Type 0 where
  pub there : Contains hs p
  pub parent : IsParent at p
  pub chain : IsChainIn hs g p ps

pub chain_down : (hs : List Header) (g at p : Header) (ps : List Header) → IsChainIn hs g at (p ∷ ps) → HasParent hs g at p ps
chain_down hs g at p ps c =
    let tail = all_in_tail hs at (p ∷ ps) c.1 in
    record { there = tail p (Contains-first p ps); parent = (c.0.0, c.0.1); chain = (c.0.2, tail) }

any_parent : (hs : List Header) (g at p : Header) (ps : List Header) → HasParent hs g at p ps → Any (IsParent at) hs
any_parent hs g at p ps h = (h.there.0, p, h.there.1, h.there.2, h.parent)

-- a header has one parent
same_parent : (hs : List Header) (at p q : Header) → NoCollision hs → Contains hs p → Contains hs q → IsParent at p → IsParent at q → p ≡ q
same_parent hs at p q apart in_p in_q np nq = apart p q in_p in_q (sym np.0.id ∙ nq.0.id)

-- what has the id that b names for its parent, and not the view, is not its parent; nor is another
pub not_parent : (hs : List Header) (b p : Header) (r : Bool) → NoCollision hs → Contains hs p → header_id p ≡ b.parent
    → IsTrue r ↔ ((b.parent_view ≡ p.view) × (p.view < b.view)) → r ≡ false → Any (IsParent b) hs → ⊥
not_parent hs b p r apart in_p named test fails (k, q, lt, at, n) =
    let same : q ≡ p = apart q p (k, lt, at) in_p (sym n.0.id ∙ sym named) in
    let is : IsParent b p = subst (λ (x : Header). IsParent b x) same n in
    false≢true (sym fails ∙ test.1 (is.0.view, is.1))

-- genesis has none
pub genesis_ends : (g p : Header) → IsGenesis g → IsParent g p → ⊥
genesis_ends g p is n = let z = is.view in let l = n.1 in absurd (omega arith)

-- where a chain leads is not younger
pub not_younger : (hs : List Header) (a b : Header) (ps : List Header) → IsChainIn hs a b ps → a.view ≤ b.view
not_younger hs a b [] c = let same = ap (λ (h : Header). h.view) c.0 in omega arith
not_younger hs a b (p ∷ ps) c =
    let d = chain_down hs a b p ps c in
    let rest = not_younger hs a p ps d.chain in
    let older = d.parent.1 in
    omega arith

-- .. and if it is not older either, it is the header itself
pub leads_to_itself : (hs : List Header) (a b : Header) → b.view ≤ a.view → IsLinked hs a b → b ≡ a
leads_to_itself hs a b low ([], c) = c.0
leads_to_itself hs a b low (p ∷ ps, c) =
    let d = chain_down hs a b p ps c in
    let rest = not_younger hs a p ps d.chain in
    let older = d.parent.1 in
    absurd (omega arith)

-- a chain to an older header leads through the parent
pub linked_down : (hs : List Header) (a at p : Header) → NoCollision hs → a.view < at.view → Contains hs p → IsParent at p → IsLinked hs a at → IsLinked hs a p
linked_down hs a at p apart older in_p n ([], c) = let same = ap (λ (h : Header). h.view) c.0 in absurd (omega arith)
linked_down hs a at p apart older in_p n (q ∷ qs, c) =
    let d = chain_down hs a at q qs c in
    subst (λ (x : Header). IsLinked hs a x) (same_parent hs at q p apart d.there in_p d.parent n) (qs, d.chain)

-- a chain that goes on
pub linked_through : (hs : List Header) (a m b : Header) (ps : List Header) → IsChainIn hs m b ps → IsLinked hs a m → IsLinked hs a b
linked_through hs a m b [] c l = subst (λ (x : Header). IsLinked hs a x) (sym c.0) l
linked_through hs a m b (p ∷ ps) c l =
    let d = chain_down hs m b p ps c in
    linked_up hs a b p (c.1 b (Contains-first b (p ∷ ps))) d.parent (linked_through hs a m p ps d.chain l)

-- of two headers to which a chain leads, the younger leads to the older
pub linked_past : (hs : List Header) (a m b : Header) (ps : List Header) → NoCollision hs → a.view ≤ m.view → IsChainIn hs m b ps → IsLinked hs a b → IsLinked hs a m
linked_past hs a m b [] apart low c l = subst (λ (x : Header). IsLinked hs a x) c.0 l
linked_past hs a m b (p ∷ ps) apart low c l =
    let d = chain_down hs m b p ps c in
    let rest = not_younger hs m p ps d.chain in
    let step = d.parent.1 in
    let older : a.view < b.view = omega arith in
    linked_past hs a m p ps apart low d.chain (linked_down hs a b p apart older d.there d.parent l)

-- a linked header that has none is genesis
pub linked_last : (hs : List Header) (g at : Header) → (Any (IsParent at) hs → ⊥) → IsLinked hs g at → at ≡ g
linked_last hs g at none ([], c) = c.0
linked_last hs g at none (q ∷ qs, c) =
    let d = chain_down hs g at q qs c in absurd (none (any_parent hs g at q qs d))

-- ---- ancestors

-- the parent is an ancestor, and so are its ancestors
pub ancestor_here : (hs : List Header) (g at p : Header) → Contains hs at → IsParent at p → IsLinked hs g p → IsAncestor hs g p at
ancestor_here hs g at p c n l = (p ∷ l.0, chain_up hs g at p l.0 c n l.1, Contains-first p l.0)

pub ancestor_up : (hs : List Header) (g a at p : Header) → Contains hs at → IsParent at p → IsAncestor hs g a p → IsAncestor hs g a at
ancestor_up hs g a at p c n is = (p ∷ is.0, chain_up hs g at p is.0 c n is.1, Contains-later p is.0 a is.2)

-- an ancestor is older
pub older : (g a b : Header) (ps : List Header) → IsChain g b ps → Contains ps a → a.view < b.view
older g a b [] c m = absurd (not_in_none a m)
older g a b (p ∷ ps) c m =
    elim (head_or_later p ps a m) [
      | inl here ↦ let k = ap (λ (h : Header). h.view) here in let l = c.1 in omega arith
      | inr later ↦ let k = older g a p ps c.2 later in let l = c.1 in omega arith
    ]

-- a chain leads to each ancestor
pub leads_to_ancestor : (hs : List Header) (g a b : Header) (ps : List Header) → IsChainIn hs g b ps → Contains ps a → IsLinked hs a b
leads_to_ancestor hs g a b [] c m = absurd (not_in_none a m)
leads_to_ancestor hs g a b (p ∷ ps) c m =
    let d = chain_down hs g b p ps c in
    let in_b = c.1 b (Contains-first b (p ∷ ps)) in
    elim (head_or_later p ps a m) [
      | inl here ↦ linked_up hs a b p in_b d.parent (subst (λ (x : Header). IsLinked hs x p) here (linked_genesis hs p d.there))
      | inr later ↦ linked_up hs a b p in_b d.parent (leads_to_ancestor hs g a p ps d.chain later)
    ]

-- .. and each other header to which one leads is an ancestor, where it is linked
pub ancestor_through : (hs : List Header) (g a b p : Header) (ps : List Header) → Contains hs b → IsParent b p → IsChainIn hs a p ps → IsLinked hs g a → IsAncestor hs g a b
ancestor_through hs g a b p [] in_b n c l =
    subst (λ (x : Header). IsAncestor hs g x b) c.0 (ancestor_here hs g b p in_b n (subst (λ (x : Header). IsLinked hs g x) (sym c.0) l))
ancestor_through hs g a b p (q ∷ qs) in_b n c l =
    let d = chain_down hs a p q qs c in
    ancestor_up hs g a b p in_b n (ancestor_through hs g a p q qs (c.1 p (Contains-first p (q ∷ qs))) d.parent d.chain l)

pub ancestor_where_led : (hs : List Header) (g a b : Header) → (a ≡ b → ⊥) → IsLinked hs a b → IsLinked hs g a → IsAncestor hs g a b
ancestor_where_led hs g a b other ([], c) l = absurd (other (sym c.0))
ancestor_where_led hs g a b other (p ∷ ps, c) l =
    let d = chain_down hs a b p ps c in
    ancestor_through hs g a b p ps (c.1 b (Contains-first b (p ∷ ps))) d.parent d.chain l

-- ---- genesis among the headers

pub chain_with : (hs : List Header) (g b : Header) (ps : List Header) → Contains hs g → (IsChainIn (g ∷ hs) g b ps ↔ IsChainIn hs g b ps)
chain_with hs g b ps there = (
  λ c. (c.0, λ h m. elim (head_or_later g hs h (c.1 h m)) [ inl here ↦ subst (λ (x : Header). Contains hs x) here there | inr later ↦ later ]),
  λ c. (c.0, λ h m. Contains-later g hs h (c.1 h m)),
)

-- ---- by ids

-- the known header of an id is the one that is meant
pub linked_is : (known : Known) (id : List ℕ) (b : Header) → IsKnown known → Contains (all_of known) b → header_id b ≡ id → IsLinkedId known id → IsLinked (all_of known) known.genesis b
linked_is known id b is there named (h, same, l) =
    subst (λ (x : Header). IsLinked (all_of known) known.genesis x)
    (apart known is h b (linked_there (all_of known) known.genesis h l) there (same ∙ sym named)) l

pub ancestor_is : (known : Known) (first second : List ℕ) (a b : Header) → IsKnown known → Contains (all_of known) a → Contains (all_of known) b → header_id a ≡ first → header_id b ≡ second
    → IsAncestorId known first second → IsAncestor (all_of known) known.genesis a b
ancestor_is known first second a b is in_a in_b named_a named_b (h, k, same_h, same_k, l) =
    let hs = all_of known in
    let above : Contains hs h = l.1.1 h (Contains-later k l.0 h l.2) in
    let below : Contains hs k = l.1.1 k (Contains-first k l.0) in
    subst (λ (x : Header). IsAncestor hs known.genesis x b) (apart known is h a above in_a (same_h ∙ sym named_a))
    (subst (λ (x : Header). IsAncestor hs known.genesis h x) (apart known is k b below in_b (same_k ∙ sym named_b)) l)

-- ---- laws

pub genesis_linked : (known : Known) → IsLinkedId known (header_id known.genesis)
genesis_linked known = (known.genesis, refl, linked_genesis (all_of known) known.genesis (genesis_known known))

pub not_its_own : (known : Known) (id : List ℕ) → IsKnown known → IsAncestorId known id id → ⊥
not_its_own known id is (h, k, same_h, same_k, l) =
    let in_h : Contains (all_of known) h = l.1.1 h (Contains-later k l.0 h l.2) in
    let in_k : Contains (all_of known) k = l.1.1 k (Contains-first k l.0) in
    let same = ap (λ (x : Header). x.view) (apart known is h k in_h in_k (same_h ∙ sym same_k)) in
    let less = older known.genesis h k l.0 l.1.0 l.2 in
    absurd (omega arith)
