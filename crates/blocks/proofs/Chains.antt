-- A block has one chain.
use Rattle.std.proofs.Common.{◌≡◌, List, [], ◌∷◌, refl, sym, ◌∙◌, ap, subst, arith}
use Rattle.std.specs.List.{Contains}
use Rattle.blocks.proofs.Members.{Contains-first, Contains-later}
use Rattle.blocks.specs.Headers.{Header, NamesParent}
use Rattle.blocks.specs.Chains.{IsChainIn, NoCollision, BlockHasOneChain}

one_parent : (hs : List Header) (b p q : Header) → NoCollision hs → Contains hs p → Contains hs q → NamesParent b p → NamesParent b q → p ≡ q
one_parent hs b p q apart hp hq np nq = apart p q hp hq (sym np.id ∙ nq.id)

pub one_chain : BlockHasOneChain
one_chain hs genesis b [] [] g apart c d = refl
one_chain hs genesis b [] (q ∷ qs) g apart c d =
    let k = ap (λ (h : Header). h.view) c.0 in let l = d.0.1 in let z = g.view in absurd (omega arith)
one_chain hs genesis b (p ∷ ps) [] g apart c d =
    let k = ap (λ (h : Header). h.view) d.0 in let l = c.0.1 in let z = g.view in absurd (omega arith)
one_chain hs genesis b (p ∷ ps) (q ∷ qs) g apart c d =
    let same : p ≡ q = one_parent hs b p q apart (c.1 p (Contains-later b (p ∷ ps) p (Contains-first p ps))) (d.1 q (Contains-later b (q ∷ qs) q (Contains-first q qs))) c.0.0 d.0.0 in
    let c' : IsChainIn hs genesis q ps = subst (λ (x : Header). IsChainIn hs genesis x ps) same (c.0.2, λ x m. c.1 x (Contains-later b (p ∷ ps) x m)) in
    ap (λ (x : Header). x ∷ ps) same ∙ ap (λ (xs : List Header). q ∷ xs) (one_chain hs genesis q ps qs g apart c' (d.0.2, λ x m. d.1 x (Contains-later b (q ∷ qs) x m)))
