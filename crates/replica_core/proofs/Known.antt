-- The headers that stored entries name, and what the entries leave.
use Rattle.std.proofs.Common.{◌≡◌, ◌⊎◌, ℕ, ◌<◌, ◌≤◌, ◌+◌, List, [], ◌∷◌, ◌++◌, length, get_or, take, refl, sym, ◌∙◌, ap, subst, inl, inr, arith}
use Rattle.std.specs.Prelude.{◌≢◌, ◌↔◌}
use Rattle.std.specs.List.{Contains}
use Rattle.std.proofs.lemmas.List.{take_more, take_all}
use Rattle.std.proofs.lemmas.List.Elements.{Contains-append_left, Contains-push, Contains-push_cases}
use Rattle.blocks.specs.Headers.{Header, header_id}
use Rattle.blocks.specs.Replica.{Stored}
use Rattle.blocks.specs.Replay.{Durable, replay, replay_from, replay_entry, first_durable, IsLegal, IsLegalFrom, IsLegalEntry}
use Rattle.replica_core.specs.Restarts.{headers_of_list, known_headers, IsFirstOfId}
use Rattle.replica_core.specs.Tables.{AddsEntry, AddsFirst}

-- ---- replay

replay_push : (d : Durable) (xs : List Stored) (x : Stored) → replay_from d (xs ++ x ∷ []) ≡ replay_entry (replay_from d xs) x.voted x.block x.parent
replay_push d [] x = refl
replay_push d (y ∷ ys) x = replay_push (replay_entry d y.voted y.block y.parent) ys x

pub replay_more : (genesis : Header) (xs : List Stored) (i : ℕ) (x : Stored) → i < length xs → replay genesis (take (i + 1) xs) ≡ replay_entry (replay genesis (take i xs)) (get_or xs i x).voted (get_or xs i x).block (get_or xs i x).parent
replay_more genesis xs i x l = ap (replay_from (first_durable genesis)) (take_more xs i x l) ∙ replay_push (first_durable genesis) (take i xs) (get_or xs i x)

legal_push : (d : Durable) (xs : List Stored) (x : Stored) → IsLegalFrom d xs → IsLegalEntry (replay_from d xs) x.voted x.block x.parent → IsLegalFrom d (xs ++ x ∷ [])
legal_push d [] x l e = (e, tt)
legal_push d (y ∷ ys) x l e = (l.0, legal_push (replay_entry d y.voted y.block y.parent) ys x l.1 e)

pub legal_more : (genesis : Header) (xs : List Stored) (i : ℕ) (x : Stored) → i < length xs → IsLegal genesis (take i xs) → IsLegalEntry (replay genesis (take i xs)) (get_or xs i x).voted (get_or xs i x).block (get_or xs i x).parent → IsLegal genesis (take (i + 1) xs)
legal_more genesis xs i x l a e = subst (λ (ys : List Stored). IsLegal genesis ys) (sym (take_more xs i x l)) (legal_push (first_durable genesis) (take i xs) (get_or xs i x) a e)

pub legal_all : (genesis : Header) (xs : List Stored) (i : ℕ) → length xs ≤ i → IsLegal genesis (take i xs) → IsLegal genesis xs
legal_all genesis xs i l a = subst (λ (ys : List Stored). IsLegal genesis ys) (take_all i xs l) a

-- ---- the first headers of their ids

-- some header of the list has this id
Named : List Header → List ℕ → Type 0
Named hs id = (h : Header) × Contains hs h × (header_id h ≡ id)

-- kept are the headers of the list that are the first of their ids
abbrev pub AreFirsts : (list kept : List Header) → Type 0
AreFirsts list kept = (h : Header) → Contains kept h ↔ IsFirstOfId list h

-- no header of the list has this id, by recursion
abbrev NoneOf : List Header → List ℕ → Type 0
NoneOf [] id = Unit {0}
NoneOf (x ∷ xs) id = (header_id x ≢ id) × NoneOf xs id

first_left : (xs : List Header) (y h : Header) → IsFirstOfId xs h → IsFirstOfId (xs ++ y ∷ []) h
first_left [] y h f = absurd f
first_left (x ∷ xs) y h f = elim f [ inl e ↦ inl e | inr r ↦ inr (r.0, first_left xs y h r.1) ]

first_last : (xs : List Header) (y : Header) → NoneOf xs (header_id y) → IsFirstOfId (xs ++ y ∷ []) y
first_last [] y n = inl refl
first_last (x ∷ xs) y n = inr (n.0, first_last xs y n.1)

first_cases : (xs : List Header) (y h : Header) → IsFirstOfId (xs ++ y ∷ []) h → IsFirstOfId xs h ⊎ ((y ≡ h) × NoneOf xs (header_id h))
first_cases [] y h f = elim f [ inl e ↦ inr (e, tt) | inr r ↦ absurd r.1 ]
first_cases (x ∷ xs) y h f =
    elim f [
      | inl e ↦ inl (inl e)
      | inr r ↦ elim (first_cases xs y h r.1) [ inl i ↦ inl (inr (r.0, i)) | inr i ↦ inr (i.0, (r.0, i.1)) ]
    ]

-- a first header is none of those of another id
first_named : (xs : List Header) (h : Header) → IsFirstOfId xs h → NoneOf xs (header_id h) → ⊥
first_named [] h f n = f
first_named (x ∷ xs) h f n = elim f [ inl e ↦ n.0 (ap header_id e) | inr r ↦ first_named xs h r.1 n.1 ]

-- an id that no first header has, no header has
none_from : (xs : List Header) (id : List ℕ) → ((h : Header) → IsFirstOfId xs h → header_id h ≡ id → ⊥) → NoneOf xs id
none_from [] id n = tt
none_from (x ∷ xs) id n = (n x (inl refl), none_from xs id (λ h f e. n h (inr ((λ s. n x (inl refl) (s ∙ e)), f)) e))

pub firsts_push : (list kept new : List Header) (y : Header) → AreFirsts list kept → AddsFirst kept new y → AreFirsts (list ++ y ∷ []) new
firsts_push list kept new y f a h =
    elim a [
      | inl n ↦ (
          let none : NoneOf list (header_id y) = none_from list (header_id y) (λ k i e. n.0 k ((f k).1 i) e) in (
            (λ m. elim (Contains-push_cases kept y h (subst (λ (hs : List Header). Contains hs h) n.1 m)) [
              | inl o ↦ first_left list y h ((f h).0 o)
              | inr e ↦ subst (λ (k : Header). IsFirstOfId (list ++ y ∷ []) k) e (first_last list y none)
            ]),
            (λ i. subst (λ (hs : List Header). Contains hs h) (sym n.1) (elim (first_cases list y h i) [
              | inl o ↦ Contains-append_left kept (y ∷ []) h ((f h).1 o)
              | inr e ↦ subst (λ (k : Header). Contains (kept ++ y ∷ []) k) e.0 (Contains-push kept y)
            ])),
          ))
      | inr o ↦ (
        (λ m. first_left list y h ((f h).0 (subst (λ (hs : List Header). Contains hs h) o.1 m))),
        (λ i. subst (λ (hs : List Header). Contains hs h) (sym o.1) (elim (first_cases list y h i) [
          | inl r ↦ (f h).1 r
          | inr e ↦ absurd (first_named list o.0.0 ((f o.0.0).0 o.0.1.0) (subst (λ (id : List ℕ). NoneOf list id) (ap header_id (sym e.0) ∙ sym o.0.1.1) e.1))
        ])),
      )
    ]

-- ---- one entry more

headers_of_list-push : (xs : List Stored) (x : Stored) → headers_of_list (xs ++ x ∷ []) ≡ (headers_of_list xs ++ x.block ∷ []) ++ x.parent ∷ []
headers_of_list-push [] x = refl
headers_of_list-push (y ∷ ys) x = ap (λ (hs : List Header). y.block ∷ y.parent ∷ hs) (headers_of_list-push ys x)

pub known_more : (genesis : Header) (xs : List Stored) (i : ℕ) (x : Stored) → i < length xs → x ≡ get_or xs i x → known_headers genesis (take (i + 1) xs) ≡ (known_headers genesis (take i xs) ++ x.block ∷ []) ++ x.parent ∷ []
known_more genesis xs i x l e =
    ap (known_headers genesis) (take_more xs i x l)
    ∙ ap (λ (hs : List Header). genesis ∷ hs) (headers_of_list-push (take i xs) (get_or xs i x))
    ∙ ap (λ (y : Stored). (known_headers genesis (take i xs) ++ y.block ∷ []) ++ y.parent ∷ []) (sym e)

pub firsts_more : (genesis : Header) (xs : List Stored) (i : ℕ) (x : Stored) (kept new : List Header) → i < length xs → x ≡ get_or xs i x → AreFirsts (known_headers genesis (take i xs)) kept → AddsEntry kept new x → AreFirsts (known_headers genesis (take (i + 1) xs)) new
firsts_more genesis xs i x kept new l e f a =
    let known = known_headers genesis (take i xs) in
    subst (λ (hs : List Header). AreFirsts hs new) (sym (known_more genesis xs i x l e))
    (firsts_push (known ++ x.block ∷ []) a.0 new x.parent (firsts_push known kept a.0 x.block f a.1) a.2)

pub firsts_all : (genesis : Header) (xs : List Stored) (i : ℕ) (kept : List Header) → length xs ≤ i → AreFirsts (known_headers genesis (take i xs)) kept → AreFirsts (known_headers genesis xs) kept
firsts_all genesis xs i kept l f = subst (λ (ys : List Stored). AreFirsts (known_headers genesis ys) kept) (take_all i xs l) f

pub firsts_none : AreFirsts [] []
firsts_none h = (λ m. (let l = m.1 in absurd (omega arith)), λ f. absurd f)

length-push : (xs : List Header) (x : Header) → length (xs ++ x ∷ []) ≡ length xs + 1
length-push [] x = refl
length-push (y ∷ xs) x = let i = length-push xs x in omega arith

-- one header at the most is added
pub length_adds : (old new : List Header) (h : Header) → AddsFirst old new h → length new ≤ length old + 1
length_adds old new h a =
    elim a [
      | inl n ↦ (let e = ap (λ (hs : List Header). length hs) n.1 in let f = length-push old h in omega arith)
      | inr o ↦ (let e = ap (λ (hs : List Header). length hs) o.1 in omega arith)
    ]

pub length_adds_entry : (old new : List Header) (x : Stored) → AddsEntry old new x → length new ≤ length old + 2
length_adds_entry old new x a =
    let f = length_adds old a.0 x.block a.1 in
    let g = length_adds a.0 new x.parent a.2 in
    omega arith
