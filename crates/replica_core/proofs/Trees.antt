-- Held headers and their chains.
use Rattle.std.proofs.Common.{◌≡◌, ℕ, ◌<◌, List, [], ◌∷◌, ◌++◌, ◌+◌, length, Bool, true, false, cond, refl, sym, ◌∙◌, ap, subst, inl, inr, arith}
use Rattle.std.specs.Prelude.{Option, None, Some, MatchOption}
use Rattle.std.specs.List.{Contains}
use Rattle.std.proofs.lemmas.List.Elements.{Contains-append_left, Contains-append_right, Contains-append_cases, Contains-push, Contains-push_cases}
use Rattle.blocks.specs.Headers.{Header, header_id}
use Rattle.blocks.specs.Chains.{IsChain, AllIn, IsLinked, NoCollision}
use Rattle.replica_core.specs.Cores.{Core, IsHeaderTree}
use Rattle.replica_core.specs.Plans.{IsHeldParent, CommitsBy, is_three_chain}
use Rattle.blocks.specs.Chains.{HasNone}
use Rattle.replica_core.specs.Tables.{AllDiffer, HasId}

-- ---- lists

pub Contains-first : {X : Type 0} (x : X) (xs : List X) → Contains (x ∷ xs) x
Contains-first x xs = (0, omega arith, refl)

pub only_one : {X : Type 0} (x y : X) → Contains (x ∷ []) y → x ≡ y
only_one {X} x y c = elim (Contains-push_cases [] x y c) [ inl n ↦ (let l = n.1 in absurd (omega arith)) | inr e ↦ e ]

pub AllIn-cons : (hs : List Header) (x : Header) (xs : List Header) → Contains hs x → AllIn hs xs → AllIn hs (x ∷ xs)
AllIn-cons hs x xs c a y m =
    elim (Contains-append_cases (x ∷ []) xs y m) [
      | inl o ↦ subst (λ z. Contains hs z) (only_one x y o) c
      | inr r ↦ a y r
    ]

pub AllIn-rest : (hs : List Header) (x : Header) (xs : List Header) → AllIn hs (x ∷ xs) → AllIn hs xs
AllIn-rest hs x xs a y m = a y (Contains-append_right (x ∷ []) xs y m)

pub AllIn-none : (hs : List Header) → AllIn hs []
AllIn-none hs x m = let l = m.1 in absurd (omega arith)

-- ---- headers by their ids

pub one_of_id : (hs : List Header) (id : List ℕ) (p q : Header) → NoCollision hs → HasId hs id p → HasId hs id q → q ≡ p
one_of_id hs id p q apart m n = apart q p n.0 m.0 (n.1 ∙ sym m.1)

-- ---- parents

-- a held header but genesis has its parent held
record HeldAbove (c : Core) (h : Header) : Type 0 where
  parent : Header
  is : IsHeldParent c h parent

above : (c : Core) (h : Header) (ps : List Header) → (h ≡ c.genesis → ⊥) → IsChain c.genesis h ps → AllIn c.headers (h ∷ ps) → HeldAbove c h
above c h [] other k a = absurd (other k)
above c h (p ∷ ps) other k a = record {
  parent = p;
  is = record { held = a p (Contains-append_right (h ∷ []) (p ∷ ps) p (Contains-first p ps)); names = k.0; older = k.1 };
}

held_above : (c : Core) (h : Header) → IsHeaderTree c.genesis c.headers → Contains c.headers h → (h ≡ c.genesis → ⊥) → HeldAbove c h
held_above c h t m other = let l = t.linked h m in above c h l.0 other l.1.0 l.1.1

pub held_parent : (c : Core) (h p : Header) → IsHeaderTree c.genesis c.headers → Contains c.headers h → (h ≡ c.genesis → ⊥) → HasId c.headers h.parent p → IsHeldParent c h p
held_parent c h p t m other n =
    let a = held_above c h t m other in
    let same : a.parent ≡ p = t.apart a.parent p a.is.held n.0 (sym a.is.names.id ∙ sym n.1) in
    subst (λ (q : Header). IsHeldParent c h q) same a.is

pub no_orphan : (c : Core) (h : Header) → IsHeaderTree c.genesis c.headers → Contains c.headers h → (h ≡ c.genesis → ⊥) → HasNone c.headers h.parent → ⊥
no_orphan c h t m other none =
    let a = held_above c h t m other in
    none a.parent a.is.held (sym a.is.names.id)

-- what a look-up of the parent's id finds
pub parent_found : {X : Type 0} (c : Core) (h : Header) (now : X → Header) (r : Option X) → IsHeaderTree c.genesis c.headers → Contains c.headers h → (h ≡ c.genesis → ⊥) → MatchOption r (HasNone c.headers h.parent) (λ x. HasId c.headers h.parent (now x)) → MatchOption r (h ≡ c.genesis) (λ x. IsHeldParent c h (now x))
parent_found c h now None t m other none = absurd (no_orphan c h t m other none)
parent_found c h now (Some x) t m other n = held_parent c h (now x) t m other n

-- ---- commits

pub commits_of_root : (c : Core) (h : Header) → h ≡ c.genesis → CommitsBy c h None
commits_of_root c h e = record { below = []; chain = record { is_chain = e; held = AllIn-none c.headers }; committed = refl }

pub commits_of_second : (c : Core) (h m : Header) → IsHeldParent c h m → m ≡ c.genesis → CommitsBy c h None
commits_of_second c h m p e = record {
  below = m ∷ [];
  chain = record { is_chain = (p.names, p.older, e); held = AllIn-cons c.headers m [] p.held (AllIn-none c.headers) };
  committed = refl;
}

commits_of_third : (c : Core) (h m f : Header) (id : Option (List ℕ)) → IsHeaderTree c.genesis c.headers → IsHeldParent c h m → IsHeldParent c m f → id ≡ cond (is_three_chain f m h) (Some (header_id f)) None → CommitsBy c h id
commits_of_third c h m f id t p q e =
    let l = t.linked f q.held in
    record {
      below = m ∷ f ∷ l.0;
      chain = record { is_chain = (p.names, p.older, (q.names, q.older, l.1.0)); held = AllIn-cons c.headers m (f ∷ l.0) p.held l.1.1 };
      committed = e;
    }

pub commits_first : (c : Core) (h m f : Header) → IsHeaderTree c.genesis c.headers → IsHeldParent c h m → IsHeldParent c m f → is_three_chain f m h ≡ true → CommitsBy c h (Some m.parent)
commits_first c h m f t p q is =
    commits_of_third c h m f (Some m.parent) t p q (ap (λ (i : List ℕ). Some i) q.names.id ∙ sym (ap (λ (b : Bool). cond b (Some (header_id f)) None) is))

pub commits_none : (c : Core) (h m f : Header) → IsHeaderTree c.genesis c.headers → IsHeldParent c h m → IsHeldParent c m f → is_three_chain f m h ≡ false → CommitsBy c h None
commits_none c h m f t p q is =
    commits_of_third c h m f None t p q (sym (ap (λ (b : Bool). cond b (Some (header_id f)) None) is))

-- ---- one more header

AllIn-push : (hs : List Header) (b : Header) (xs : List Header) → AllIn hs xs → AllIn (hs ++ b ∷ []) xs
AllIn-push hs b xs a y m = Contains-append_left hs (b ∷ []) y (a y m)

IsLinked-push : (hs : List Header) (g b h : Header) → IsLinked hs g h → IsLinked (hs ++ b ∷ []) g h
IsLinked-push hs g b h l = (l.0, (l.1.0, AllIn-push hs b (h ∷ l.0) l.1.1))

linked_push : (g : Header) (hs : List Header) (b h : Header) (ps : List Header) → IsChain g b ps → AllIn hs ps → b ≡ h → IsLinked (hs ++ b ∷ []) g h
linked_push g hs b h ps k a e =
    subst (λ (x : Header). IsLinked (hs ++ b ∷ []) g x) e (ps, (k, AllIn-cons (hs ++ b ∷ []) b ps (Contains-push hs b) (AllIn-push hs b ps a)))

length-push : (xs : List Header) (x : Header) → length (xs ++ x ∷ []) ≡ length xs + 1
length-push [] x = refl
length-push (y ∷ xs) x = let i = length-push xs x in omega arith

pub tree_push : (g : Header) (hs : List Header) (b : Header) (ps : List Header) → IsHeaderTree g hs → NoCollision (hs ++ b ∷ []) → AllDiffer (hs ++ b ∷ []) → IsChain g b ps → AllIn hs ps → length hs < 65536 → IsHeaderTree g (hs ++ b ∷ [])
tree_push g hs b ps t apart once k a l = record {
  is_genesis = t.is_genesis;
  root = Contains-append_left hs (b ∷ []) g t.root;
  linked = λ h m. (elim (Contains-push_cases hs b h m) [
    | inl o ↦ IsLinked-push hs g b h (t.linked h o)
    | inr e ↦ linked_push g hs b h ps k a e
  ]);
  apart = apart;
  once = once;
  most = (let n = length-push hs b in omega arith);
}
