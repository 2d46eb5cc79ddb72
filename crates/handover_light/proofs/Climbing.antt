-- The headers of a light proof, and the chain below its first block.
use Rattle.std.proofs.Common.{◌≡◌, ◌⊎◌, ℕ, zero, suc, ◌-◌, ◌<◌, ◌≤◌, List, [], ◌∷◌, length, refl, sym, ◌∙◌, ap, subst, inl, inr, arith}
use Rattle.std.specs.List.{Contains}
use Rattle.std.proofs.lemmas.Bool.{cases_eq}
use Rattle.std.proofs.lemmas.List.{get_or_default}
use Rattle.blocks.specs.Headers.{Header, IsGenesis, IsHeader, NamesParent}
use Rattle.blocks.specs.Chains.{AllIn, IsChain, IsChainIn, NoCollision}
use Rattle.blocks.proofs.Members.{Has, Contains-first, Contains-later}
use Rattle.handover_light.specs.LightProofs.{LightProof, IsLightProof}
use Rattle.handover_light.specs.Proving.{IsHandoverChain, nth_header, no_header}

-- ---- the headers one by one

pub contains_nth : (p : LightProof) (k : ℕ) → k < length p.headers → Contains p.headers (nth_header p k)
contains_nth p k below = (k, below, sym (get_or_default p.headers k no_header (nth_header p k) below))

-- each is a header
is_nth : (p : LightProof) (k : ℕ) → IsLightProof p → k < length p.headers → IsHeader (nth_header p k)
is_nth p k is below = is.each k no_header below

-- each is on the one before
pub parent_of : (p : LightProof) (k j : ℕ) → IsHandoverChain p → k ≡ suc j → k < length p.headers → NamesParent (nth_header p k) (nth_header p j)
parent_of p k j chain next below =
    let named = (chain.parents k below).parent (omega arith) in
    let place : k - 1 ≡ j = omega arith in
    subst (λ (i : ℕ). NamesParent (nth_header p k) (nth_header p i)) place named

-- .. and above it
above_next : (k j : Header) → IsHeader k → NamesParent k j → 0 < j.view → j.view < k.view
above_next k j is names above = omega (arith, is.in_order, names.view)

pub above_genesis : (p : LightProof) (k : ℕ) → IsLightProof p → IsHandoverChain p → k < length p.headers → 0 < (nth_header p k).view
above_genesis p zero is chain below = chain.handover.above
above_genesis p (suc k) is chain below =
    let before = above_genesis p k is chain (omega arith) in
    let rises = above_next (nth_header p (suc k)) (nth_header p k) (is_nth p (suc k) is below) (parent_of p (suc k) k chain refl below) before in
    omega arith

pub rises : (p : LightProof) (k : ℕ) → IsLightProof p → IsHandoverChain p → suc k < length p.headers → (nth_header p k).view < (nth_header p (suc k)).view
rises p k is chain below =
    above_next (nth_header p (suc k)) (nth_header p k) (is_nth p (suc k) is below) (parent_of p (suc k) k chain refl below) (above_genesis p k is chain (omega arith))

pub not_below_first : (p : LightProof) (k : ℕ) → IsLightProof p → IsHandoverChain p → k < length p.headers → (nth_header p 0).view ≤ (nth_header p k).view
not_below_first p zero is chain below = omega arith
not_below_first p (suc k) is chain below =
    let before = not_below_first p k is chain (omega arith) in
    let next = rises p k is chain below in
    omega arith

-- ---- the chain of each

-- the headers behind header k: those before it, and the chain of the first
abbrev pub under : LightProof → ℕ → List Header → List Header
under p zero hs = hs
under p (suc k) hs = nth_header p k ∷ under p k hs

pub climb : (genesis : Header) (p : LightProof) (k : ℕ) (hs : List Header) → IsLightProof p → IsHandoverChain p → k < length p.headers
    → IsChain genesis (nth_header p 0) hs → IsChain genesis (nth_header p k) (under p k hs)
climb genesis p zero hs is chain below base = base
climb genesis p (suc k) hs is chain below base =
    (parent_of p (suc k) k chain refl below, rises p k is chain below, climb genesis p k hs is chain (omega arith) base)

-- what stands there is one of the headers, or in the chain of the first
pub in_under : (p : LightProof) (k : ℕ) (hs : List Header) (h : Header) → Has (nth_header p k ∷ under p k hs) h
    → ((j : ℕ) × (j ≤ k) × (nth_header p j ≡ h)) ⊎ Has hs h
in_under p zero hs h (inl e) = inl (0, omega arith, e)
in_under p zero hs h (inr m) = inr m
in_under p (suc k) hs h (inl e) = inl (suc k, omega arith, e)
in_under p (suc k) hs h (inr m) =
    elim (in_under p k hs h m) [
      | inl found ↦ inl (found.0, (let low = found.1 in omega arith), found.2)
      | inr later ↦ inr later
    ]

-- the headers up to header k, and the chain of the first, stand there
pub under_first : (p : LightProof) (k : ℕ) (hs : List Header) (h : Header) → Has (nth_header p 0 ∷ hs) h → Has (nth_header p k ∷ under p k hs) h
under_first p zero hs h m = m
under_first p (suc k) hs h m = inr (under_first p k hs h m)

pub under_nth : (p : LightProof) (k j : ℕ) (hs : List Header) → j ≤ k → Has (nth_header p k ∷ under p k hs) (nth_header p j)
under_nth p zero j hs low = let first : 0 ≡ j = omega arith in inl (ap (nth_header p) first)
under_nth p (suc k) j hs low =
    elim (cases_eq j (suc k)) [
      | inl e ↦ inl (ap (nth_header p) (sym e))
      | inr d ↦ inr (under_nth p k j hs (omega arith))
    ]

-- ---- a chain of header k is such a one

pub record Descends (hs : List Header) (genesis : Header) (p : LightProof) (k : ℕ) (chain : List Header) : Type 0 where
  pub rest : List Header
  pub is : chain ≡ under p k rest
  pub base : IsChainIn hs genesis (nth_header p 0) rest

pub descend : (hs : List Header) (genesis : Header) (p : LightProof) (k : ℕ) (chain : List Header) → IsGenesis genesis → NoCollision hs → AllIn hs p.headers
    → IsLightProof p → IsHandoverChain p → k < length p.headers → IsChainIn hs genesis (nth_header p k) chain → Descends hs genesis p k chain
descend hs genesis p zero chain g apart all is links below c = record { rest = chain; is = refl; base = c }
descend hs genesis p (suc k) [] g apart all is links below c =
    let up = above_genesis p (suc k) is links below in
    let same = ap (λ (h : Header). h.view) c.0 in
    let z = g.view in
    absurd (omega arith)
descend hs genesis p (suc k) (q ∷ qs) g apart all is links below c =
    let named = parent_of p (suc k) k links refl below in
    let here : Contains hs q = c.1 q (Contains-later (nth_header p (suc k)) (q ∷ qs) q (Contains-first q qs)) in
    let there : Contains hs (nth_header p k) = all (nth_header p k) (contains_nth p k (omega arith)) in
    let same : q ≡ nth_header p k = apart q (nth_header p k) here there (sym c.0.0.id ∙ named.id) in
    let lower : IsChainIn hs genesis q qs = (c.0.2, λ h m. c.1 h (Contains-later (nth_header p (suc k)) (q ∷ qs) h m)) in
    let d = descend hs genesis p k qs g apart all is links (omega arith) (subst (λ (h : Header). IsChainIn hs genesis h qs) same lower) in
    record { rest = d.rest; is = ap (λ (h : Header). h ∷ qs) same ∙ ap (λ (xs : List Header). nth_header p k ∷ xs) d.is; base = d.base }
