-- The headers that have a chain, found by rising view.
use Rattle.std.proofs.Common.{◌≡◌, ◌⊎◌, ℕ, ◌<◌, ◌≤◌, ◌+◌, List, [], ◌∷◌, ◌++◌, length, get_or, take, zero, suc, refl, sym, ◌∙◌, ap, subst, inl, inr, arith}
use Rattle.std.specs.Prelude.{◌↔◌}
use Rattle.std.specs.List.{Contains}
use Rattle.std.specs.List.Sorted.{IsNonDecreasingBy, IsPermutation}
use Rattle.std.proofs.lemmas.Bool.{cases_lt}
use Rattle.std.proofs.lemmas.List.{take_more, take_all}
use Rattle.std.proofs.lemmas.List.Elements.{Contains-append_left, Contains-append_right, Contains-get_or, Contains-push, Contains-push_cases, Contains-append_cases}
use Rattle.std.proofs.lemmas.List.Sorted.{Contains-permutation, IsPermutation-sym}
use Rattle.blocks.specs.Headers.{Header, NamesParent, header_id, IsGenesis}
use Rattle.blocks.specs.Chains.{IsChainIn, IsLinked, NoCollision}
use Rattle.replica_core.specs.Cores.{IsHeaderTree}
use Rattle.replica_core.specs.Restarts.{AreAllLinked}
use Rattle.replica_core.specs.Tables.{AddsFirst, AllDiffer, HasParentIn}
use Rattle.replica_core.proofs.Known.{AreFirsts}
use Rattle.replica_core.proofs.Trees.{Contains-first, only_one, AllIn-cons, AllIn-rest, AllIn-none}

-- held are those of the headers seen so far that have a chain among all of them
abbrev pub AreLinked : (all seen held : List Header) → Header → Type 0
AreLinked all seen held g = (h : Header) → Contains held h ↔ (Contains seen h × IsLinked all g h)

pub linked_none : (all : List Header) (g : Header) → AreLinked all [] [] g
linked_none all g h = (λ m. (let l = m.1 in absurd (omega arith)), λ m. (let l = m.0.1 in absurd (omega arith)))

-- genesis has a chain, and so has a header whose parent has one
linked_up : (all : List Header) (g x p : Header) → Contains all x → NamesParent x p → p.view < x.view → IsLinked all g p → IsLinked all g x
linked_up all g x p m n l k = (p ∷ k.0, ((n, l, k.1.0), AllIn-cons all x (p ∷ k.0) m k.1.1))

linked_root : (all : List Header) (g x : Header) → Contains all x → x ≡ g → IsLinked all g x
linked_root all g x m e = ([], (e, AllIn-cons all x [] m (AllIn-none all)))

-- a header that has a chain is genesis, or its parent has one
linked_down : (all : List Header) (g x : Header) (ps : List Header) → IsChainIn all g x ps → (x ≡ g) ⊎ ((p : Header) × Contains all p × NamesParent x p × (p.view < x.view) × IsLinked all g p)
linked_down all g x [] k = inl k.0
linked_down all g x (p ∷ ps) k =
    let rest = AllIn-rest all x (p ∷ ps) k.1 in
    inr (p, rest p (Contains-first p ps), k.0.0, k.0.1, (ps, (k.0.2, rest)))

-- ---- headers by rising view

taken : (xs : List Header) (i j : ℕ) (d : Header) → j < i → i ≤ length xs → Contains (take i xs) (get_or xs j d)
taken [] i j d l m = absurd (omega arith)
taken (x ∷ xs) zero j d l m = absurd (omega arith)
taken (x ∷ xs) (suc i) zero d l m = Contains-first x (take i xs)
taken (x ∷ xs) (suc i) (suc j) d l m = Contains-append_right (x ∷ []) (take i xs) (get_or xs j d) (taken xs i j d (omega arith) (omega arith))

in_all : (xs : List Header) (i : ℕ) (h : Header) → Contains (take i xs) h → Contains xs h
in_all xs zero h m = let l = m.1 in absurd (omega arith)
in_all [] (suc i) h m = let l = m.1 in absurd (omega arith)
in_all (x ∷ xs) (suc i) h m =
    elim (Contains-append_cases (x ∷ []) (take i xs) h m) [
      | inl o ↦ subst (λ (y : Header). Contains (x ∷ xs) y) (only_one x h o) (Contains-first x xs)
      | inr r ↦ Contains-append_right (x ∷ []) xs h (in_all xs i h r)
    ]

any_default : (xs : List Header) (k : ℕ) (d e : Header) → k < length xs → get_or xs k d ≡ get_or xs k e
any_default [] k d e l = absurd (omega arith)
any_default (x ∷ xs) zero d e l = refl
any_default (x ∷ xs) (suc k) d e l = any_default xs k d e (omega arith)

-- what is of an earlier view than the header at i stands before it
before : (all : List Header) (i : ℕ) (x p : Header) → IsNonDecreasingBy (λ (h : Header). h.view) all → i < length all → x ≡ get_or all i x → Contains all p → p.view < x.view → Contains (take i all) p
before all i x p sorted l is m below =
    elim (cases_lt m.0 i) [
      | inl e ↦ subst (λ (h : Header). Contains (take i all) h) m.2 (taken all i m.0 p e (omega arith))
      | inr e ↦
          (let up = sorted i m.0 p e m.1 in
          let at = ap (λ (h : Header). h.view) m.2 in
          let same = ap (λ (h : Header). h.view) (is ∙ any_default all i x p l) in
          absurd (omega arith))
    ]

-- ---- one header more

pub record Step (all : List Header) (g : Header) (i : ℕ) (x : Header) (held : List Header) : Type 0 where
  pub sorted : IsNonDecreasingBy (λ (h : Header). h.view) all
  pub apart : NoCollision all
  pub place : i < length all
  pub is : x ≡ get_or all i x
  pub held_so_far : AreLinked all (take i all) held g

here : (all : List Header) (g : Header) (i : ℕ) (x : Header) (held : List Header) → Step all g i x held → Contains all x
here all g i x held s = subst (λ (h : Header). Contains all h) (sym s.is) (Contains-get_or all i x s.place)

linked_from : (all : List Header) (g : Header) (i : ℕ) (x : Header) (held : List Header) → Step all g i x held → (x ≡ g) ⊎ HasParentIn held x → IsLinked all g x
linked_from all g i x held s d =
    let m = here all g i x held s in
    elim d [
      | inl e ↦ linked_root all g x m e
      | inr p ↦ linked_up all g x p.0 m p.2 p.3 ((s.held_so_far p.0).0 p.1).1
    ]

linked_to : (all : List Header) (g : Header) (i : ℕ) (x : Header) (held : List Header) → Step all g i x held → IsLinked all g x → (x ≡ g) ⊎ HasParentIn held x
linked_to all g i x held s k =
    elim (linked_down all g x k.0 k.1) [
      | inl e ↦ inl e
      | inr p ↦ inr (p.0, (s.held_so_far p.0).1 (before all i x p.0 s.sorted s.place s.is p.1 p.3, p.4), p.2, p.3)
    ]

-- the headers seen are those before and this one
seen_before : (all : List Header) (i : ℕ) (x h : Header) → i < length all → x ≡ get_or all i x → Contains (take i all) h → Contains (take (i + 1) all) h
seen_before all i x h l is m = subst (λ (xs : List Header). Contains xs h) (sym (take_more all i x l)) (Contains-append_left (take i all) (get_or all i x ∷ []) h m)

seen_now : (all : List Header) (i : ℕ) (x : Header) → i < length all → x ≡ get_or all i x → Contains (take (i + 1) all) x
seen_now all i x l is =
    subst (λ (xs : List Header). Contains xs x) (sym (take_more all i x l))
    (subst (λ (y : Header). Contains (take i all ++ get_or all i x ∷ []) y) (sym is) (Contains-push (take i all) (get_or all i x)))

seen_cases : (all : List Header) (i : ℕ) (x h : Header) → i < length all → x ≡ get_or all i x → Contains (take (i + 1) all) h → Contains (take i all) h ⊎ (x ≡ h)
seen_cases all i x h l is m =
    elim (Contains-push_cases (take i all) (get_or all i x) h (subst (λ (xs : List Header). Contains xs h) (take_more all i x l) m)) [
      | inl o ↦ inl o
      | inr e ↦ inr (is ∙ e)
    ]

pub linked_no : (all : List Header) (g : Header) (i : ℕ) (x : Header) (held : List Header) → Step all g i x held → ((x ≡ g) ⊎ HasParentIn held x → ⊥) → AreLinked all (take (i + 1) all) held g
linked_no all g i x held s none h = (
  (λ m. (let k = (s.held_so_far h).0 m in (seen_before all i x h s.place s.is k.0, k.1))),
  (λ m. (elim (seen_cases all i x h s.place s.is m.0) [
    | inl o ↦ (s.held_so_far h).1 (o, m.1)
    | inr e ↦ absurd (none (linked_to all g i x held s (subst (λ (y : Header). IsLinked all g y) (sym e) m.1)))
  ])),
)

-- a header of the id of x that is held is x
it_is : (all : List Header) (g : Header) (i : ℕ) (x : Header) (held : List Header) (k : Header) → Step all g i x held → Contains held k → header_id k ≡ header_id x → Contains held x
it_is all g i x held k s m e =
    subst (λ (y : Header). Contains held y) (s.apart k x (in_all all i k ((s.held_so_far k).0 m).0) (here all g i x held s) e) m

-- x is held as well, and nothing else
holds_now : (all : List Header) (g : Header) (i : ℕ) (x : Header) (held new : List Header) → Step all g i x held → AddsFirst held new x → (h : Header) → Contains new h ↔ (Contains held h ⊎ (x ≡ h))
holds_now all g i x held new s a h =
    elim a [
      | inl n ↦ (
        (λ m. Contains-push_cases held x h (subst (λ (hs : List Header). Contains hs h) n.1 m)),
        (λ m. subst (λ (hs : List Header). Contains hs h) (sym n.1) (elim m [
          | inl o ↦ Contains-append_left held (x ∷ []) h o
          | inr e ↦ subst (λ (y : Header). Contains (held ++ x ∷ []) y) e (Contains-push held x)
        ])),
      )
      | inr o ↦ (
        (λ m. inl (subst (λ (hs : List Header). Contains hs h) o.1 m)),
        (λ m. subst (λ (hs : List Header). Contains hs h) (sym o.1) (elim m [
          | inl l ↦ l
          | inr e ↦ subst (λ (y : Header). Contains held y) e (it_is all g i x held o.0.0 s o.0.1.0 o.0.1.1)
        ])),
      )
    ]

pub linked_yes : (all : List Header) (g : Header) (i : ℕ) (x : Header) (held new : List Header) → Step all g i x held → (x ≡ g) ⊎ HasParentIn held x → AddsFirst held new x → AreLinked all (take (i + 1) all) new g
linked_yes all g i x held new s d a h =
    let now = holds_now all g i x held new s a h in
    let linked = linked_from all g i x held s d in (
      (λ m. (elim (now.0 m) [
        | inl o ↦ (let k = (s.held_so_far h).0 o in (seen_before all i x h s.place s.is k.0, k.1))
        | inr e ↦ subst (λ (y : Header). Contains (take (i + 1) all) y × IsLinked all g y) e (seen_now all i x s.place s.is, linked)
      ])),
      (λ m. now.1 (elim (seen_cases all i x h s.place s.is m.0) [
        | inl o ↦ inl ((s.held_so_far h).1 (o, m.1))
        | inr e ↦ inr e
      ])),
    )

-- ---- all headers

pub linked_all : (all : List Header) (g : Header) (i : ℕ) (held : List Header) → length all ≤ i → AreLinked all (take i all) held g → (h : Header) → Contains held h ↔ IsLinked all g h
linked_all all g i held l a h = (
  (λ m. ((a h).0 m).1),
  (λ k. (a h).1 (subst (λ (xs : List Header). Contains xs h) (sym (take_all i all l)) (k.1.1 h (Contains-first h k.0)), k)),
)

chain_linked : (all : List Header) (g h y : Header) (ps : List Header) → IsChainIn all g h ps → Contains (h ∷ ps) y → IsLinked all g y
chain_linked all g h y [] k m = subst (λ (x : Header). IsLinked all g x) (only_one h y m) ([], k)
chain_linked all g h y (p ∷ ps) k m =
    elim (Contains-append_cases (h ∷ []) (p ∷ ps) y m) [
      | inl o ↦ subst (λ (x : Header). IsLinked all g x) (only_one h y o) (p ∷ ps, k)
      | inr r ↦ chain_linked all g p y ps (k.0.2, AllIn-rest all h (p ∷ ps) k.1) r
    ]

-- the linked headers are a tree
pub tree_from : (g : Header) (all held : List Header) → IsGenesis g → Contains all g → length all ≤ 65536 → AreAllLinked all held g → IsHeaderTree g held
tree_from g all held is_genesis root few a = record {
  is_genesis = is_genesis;
  root = (a.linked g).1 (linked_root all g g root refl);
  linked = λ h m. (let k = (a.linked h).0 m in (k.0, (k.1.0, λ y n. (a.linked y).1 (chain_linked all g h y k.0 k.1 n))));
  apart = a.apart;
  once = a.once;
  most = (let m = a.most in omega arith);
}

-- ---- the order does not matter

pub apart_permuted : (xs ys : List Header) → IsPermutation xs ys → NoCollision xs → NoCollision ys
apart_permuted xs ys p apart h k m n e =
    let q = IsPermutation-sym xs ys p in
    apart h k (Contains-permutation ys xs h q m) (Contains-permutation ys xs k q n) e

pub firsts_permuted : (list xs ys : List Header) → IsPermutation xs ys → AreFirsts list xs → AreFirsts list ys
firsts_permuted list xs ys p f h = (
  (λ m. (f h).0 (Contains-permutation ys xs h (IsPermutation-sym xs ys p) m)),
  (λ i. Contains-permutation xs ys h p ((f h).1 i)),
)

pub apart_none : NoCollision []
apart_none h k m n e = let l = m.1 in absurd (omega arith)

pub once_none : AllDiffer []
once_none i j d l m = absurd (omega arith)
