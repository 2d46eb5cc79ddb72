-- Headers that a map holds by their ids.
use Rattle.std.proofs.Common.{◌≡◌, ◌↔◌, ◌⊎◌, ◌∙◌, ℕ, List, [], ◌∷◌, Bool, true, false, cond, Option, Some, None, inl, inr, refl, sym, ap, subst, rules}
use Rattle.std.specs.List.{All, AllByRecursion, AllPairs, Contains}
use Rattle.std.specs.List.Sorted.{IsStrictlySortedBy}
use Rattle.std.specs.Cmp.Lexicographic.{slice_cmp}
use Rattle.std.specs.Ordering.{nat_cmp, match_ordering}
use Rattle.std.specs.declared.cmp.Ordering.{Ordering}
use Rattle.std.specs.declared.cmp.Ordering.TheVariants.{Less, Equal, Greater}
use Rattle.std.specs.Map.{keys_of, values_of}
use Rattle.std.specs.BTreeMap.{BTreeMap, get, values, is_at, insert_entry, Updates}
use Rattle.std.proofs.lemmas.Cmp.{nat_list_cmp_total}
use Rattle.std.proofs.lemmas.List.Kept.{AllPairs-cons}
use Rattle.std.proofs.lemmas.Map.Lookups.{exact_bytes}
use Rattle.std.proofs.lemmas.Map.Views.{btree_map_get_iff, tells_apart}
use Rattle.blocks.specs.Headers.{Header, HasLowerId, header_id}
use Rattle.blocks.proofs.Members.{Has, Has-from_Contains, Contains-from_Has}
use Rattle.blocks.specs.Chains.{HasNone}
use Rattle.audit_evidence.specs.Keyed.{AreById, IsUnderItsId, IsKeptInOrder}
use Rattle.audit_evidence.specs.Evidence.{IsNotBelowParent}
use Rattle.audit_evidence.specs.Gathering.{Gains}
use Rattle.audit_evidence.proofs.Lists.{all_of, no_pairs}

abbrev pub id_cmp : List ℕ → List ℕ → Ordering
id_cmp = slice_cmp nat_cmp

-- ---- entries and values

own_of : (es : List (List ℕ × Header)) (k : List ℕ) (h : Header) → AllByRecursion IsUnderItsId es → Has es (k, h) → k ≡ header_id h
own_of [] k h a m = absurd m
own_of (e ∷ es) k h a (inl is) = subst IsUnderItsId is a.0
own_of (e ∷ es) k h a (inr m) = own_of es k h a.1 m

in_values : (es : List (List ℕ × Header)) (h : Header) → Has (values_of es) h → (k : List ℕ) × Has es (k, h)
in_values [] h m = absurd m
in_values (e ∷ es) h (inl is) = (e.0, inl (ap (λ (x : Header). (e.0, x)) is))
in_values (e ∷ es) h (inr m) = let at = in_values es h m in (at.0, inr at.1)

to_values : (es : List (List ℕ × Header)) (k : List ℕ) (h : Header) → Has es (k, h) → Has (values_of es) h
to_values [] k h m = absurd m
to_values (e ∷ es) k h (inl is) = inl (ap (λ (x : List ℕ × Header). x.1) is)
to_values (e ∷ es) k h (inr m) = inr (to_values es k h m)

-- a header is held where its id leads to it
pub held : (m : BTreeMap (List ℕ) Header) → AreById m.entries → (h : Header) → Contains (values m) h ↔ (get id_cmp m (header_id h) ≡ Some h)
held m are h =
    let iff = btree_map_get_iff nat_list_cmp_total exact_bytes m are.rising (header_id h) h in (
      λ c. (let at = in_values m.entries h (Has-from_Contains (values m) h c) in
          iff.1 (Contains-from_Has m.entries (header_id h, h) (subst (λ (k : List ℕ). Has m.entries (k, h)) (own_of m.entries at.0 h are.own at.1) at.1))),
      λ g. Contains-from_Has (values m) h (to_values m.entries (header_id h) h (Has-from_Contains m.entries (header_id h, h) (iff.0 g))),
    )

-- what an id leads to
pub found : (m : BTreeMap (List ℕ) Header) → AreById m.entries → (id : List ℕ) (h : Header) → get id_cmp m id ≡ Some h → Contains (values m) h × (header_id h ≡ id)
found m are id h g =
    let there = Has-from_Contains m.entries (id, h) ((btree_map_get_iff nat_list_cmp_total exact_bytes m are.rising id h).0 g) in
    (Contains-from_Has (values m) h (to_values m.entries id h there), sym (own_of m.entries id h are.own there))

-- and where it leads to none
pub none_found : (m : BTreeMap (List ℕ) Header) → AreById m.entries → (id : List ℕ) → get id_cmp m id ≡ None → HasNone (values m) id
none_found m are id none h there is =
    let here = (held m are h).0 there in
    absurd (apart h (sym none ∙ sym (ap (get id_cmp m) is) ∙ here))
  where
    apart : (x : Header) → None ≡ Some x → ⊥
    apart x e = absurd cc

-- ---- one more

equal_here : (id : List ℕ) → is_at (id_cmp id) id ≡ true
equal_here id = search (rules, nat_list_cmp_total)

pick : (b : Bool) (o : Option Header) (v h : Header) → cond b (Some v) o ≡ Some h → (o ≡ Some h) ⊎ (h ≡ v)
pick true o v h e = inr cc
pick false o v h e = inl e

put : (b : Bool) (o : Option Header) (v h : Header) → ((o ≡ Some h) × (b ≡ true → ⊥)) ⊎ ((h ≡ v) × (b ≡ true)) → cond b (Some v) o ≡ Some h
put true o v h (inl w) = absurd (w.1 refl)
put true o v h (inr w) = ap (λ (x : Header). Some x) (sym w.0)
put false o v h (inl w) = w.0
put false o v h (inr w) = absurd cc

pub gained_header : (old new : BTreeMap (List ℕ) Header) (v : Header) → AreById old.entries → AreById new.entries → HasNone (values old) (header_id v)
    → Updates id_cmp old new (header_id v) (Some v) → Gains (values old) (values new) (λ h. h ≡ v)
gained_header old new v a b none updates h =
    let id = header_id h in
    let at_old = held old a h in
    let at_new = held new b h in
    let test = is_at (id_cmp (header_id v)) id in
    let is = updates.0 id in (
      λ has. elim (pick test (get id_cmp old id) v h (sym is ∙ at_new.0 has)) [ inl there ↦ inl (at_old.1 there) | inr same ↦ inr same ],
      λ has. at_new.1 (is ∙ put test (get id_cmp old id) v h (elim has [
        | inl there ↦ inl (at_old.0 there, λ e. none h there (sym (tells_apart exact_bytes (header_id v) id e)))
        | inr same ↦ inr (same, subst (λ (x : Header). is_at (id_cmp (header_id v)) (header_id x) ≡ true) (sym same) (equal_here (header_id v)))
      ])),
    )

own_insert : (es : List (List ℕ × Header)) (k : List ℕ) (v : Header) → k ≡ header_id v → AllByRecursion IsUnderItsId es → AllByRecursion IsUnderItsId (insert_entry id_cmp es k v)
own_insert [] k v is a = (is, tt)
own_insert (e ∷ es) k v is a = by_order (own_insert es k v is a.1) (id_cmp k e.0) refl
  where
    by_order : AllByRecursion IsUnderItsId (insert_entry id_cmp es k v) → (o : Ordering) → id_cmp k e.0 ≡ o
        → AllByRecursion IsUnderItsId (match_ordering o ((k, v) ∷ e ∷ es) ((e.0, v) ∷ es) (e ∷ insert_entry id_cmp es k v))
    by_order later Less q = (is, a)
    by_order later Equal q = (sym (exact_bytes k e.0 q) ∙ is, a.1)
    by_order later Greater q = (a.0, later)

order_insert : (es : List (List ℕ × Header)) (k : List ℕ) (v : Header) → IsNotBelowParent v → AllByRecursion IsKeptInOrder es → AllByRecursion IsKeptInOrder (insert_entry id_cmp es k v)
order_insert [] k v is a = (is, tt)
order_insert (e ∷ es) k v is a = by_order (order_insert es k v is a.1) (id_cmp k e.0)
  where
    by_order : AllByRecursion IsKeptInOrder (insert_entry id_cmp es k v) → (o : Ordering)
        → AllByRecursion IsKeptInOrder (match_ordering o ((k, v) ∷ e ∷ es) ((e.0, v) ∷ es) (e ∷ insert_entry id_cmp es k v))
    by_order later Less = (is, a)
    by_order later Equal = (is, a.1)
    by_order later Greater = (a.0, later)

pub still_by_id : (old : List (List ℕ × Header)) (new : BTreeMap (List ℕ) Header) (k : List ℕ) (v : Header) → AreById old → k ≡ header_id v → IsNotBelowParent v
    → new.entries ≡ insert_entry id_cmp old k v → IsStrictlySortedBy id_cmp (keys_of new.entries) → AreById new.entries
still_by_id old new k v are is above entries rising = record {
  own = subst (AllByRecursion IsUnderItsId) (sym entries) (own_insert old k v is are.own);
  in_order = subst (AllByRecursion IsKeptInOrder) (sym entries) (order_insert old k v above are.in_order);
  rising = rising;
}

-- ---- in order

lower : (k : List ℕ) (h : Header) (es : List (List ℕ × Header)) → k ≡ header_id h → AllByRecursion (λ (y : List ℕ). id_cmp k y ≡ Less) (keys_of es)
    → AllByRecursion IsUnderItsId es → AllByRecursion (HasLowerId h) (values_of es)
lower k h [] is below own = tt
lower k h (e ∷ es) is below own =
    (subst (λ (x : List ℕ). id_cmp x (header_id e.1) ≡ Less) is (subst (λ (y : List ℕ). id_cmp k y ≡ Less) own.0 below.0), lower k h es is below.1 own.1)

rise : (es : List (List ℕ × Header)) → AllByRecursion IsUnderItsId es → IsStrictlySortedBy id_cmp (keys_of es) → AllPairs HasLowerId (values_of es)
unfolding IsStrictlySortedBy
rise [] own sorted = no_pairs HasLowerId
rise (e ∷ es) own sorted = AllPairs-cons HasLowerId e.1 (values_of es) (all_of (HasLowerId e.1) (values_of es) (lower e.0 e.1 es own.0 sorted.0 own.1)) (rise es own.1 sorted.1)

pub ids_rise : (m : BTreeMap (List ℕ) Header) → AreById m.entries → AllPairs HasLowerId (values m)
ids_rise m are = rise m.entries are.own are.rising

of_values : (es : List (List ℕ × Header)) → AllByRecursion IsKeptInOrder es → AllByRecursion IsNotBelowParent (values_of es)
of_values [] a = tt
of_values (e ∷ es) a = (a.0, of_values es a.1)

pub none_below : (m : BTreeMap (List ℕ) Header) → AreById m.entries → All IsNotBelowParent (values m)
none_below m are = all_of IsNotBelowParent (values m) (of_values m.entries are.in_order)
