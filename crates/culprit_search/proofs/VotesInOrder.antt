-- Votes in their order: the votes of one replica, and the least that passes.
use Rattle.std.proofs.Common.{◌≡◌, ◌⊎◌, ℕ, ◌+◌, ◌-◌, ◌<◌, ◌≤◌, List, length, get_or, take, drop, inl, inr, true, false, ltb, leb, ltb-true, ltb-false, leb-true, leb-false, sym, ◌∙◌, ap, subst, arith}
use Rattle.std.specs.List.{All, AllPairs, Contains}
use Rattle.std.specs.List.Sorted.{IsNonDecreasingBy, IsPartitionPoint}
use Rattle.std.specs.Ordering.{nat_cmp, ordering_then}
use Rattle.std.specs.declared.cmp.Ordering.{Ordering}
use Rattle.std.specs.declared.cmp.Ordering.TheVariants.{Less, Equal, Greater}
use Rattle.std.proofs.lemmas.Bool.{cases_lt}
use Rattle.std.proofs.lemmas.Bool.Decides.{nat_tests}
use Rattle.std.proofs.lemmas.List.{get_or-take, get_or-drop, get_or_default, length-take, length-drop, length-take-le}
use Rattle.std.proofs.lemmas.List.Elements.{All-contains}
use Rattle.certificates.specs.declared.vote.SignedVote.{SignedVote}
use Rattle.audit_evidence.specs.Evidence.{Evidence}
use Rattle.certificates.specs.VoteOrder.{IsLowerVote}
use Rattle.culprit_search.specs.Searches.{AreOwnVotes}

-- ---- the least that passes

pub in_front : {X : Type 0} (xs : List X) (k j : ℕ) (y : X) → j < k → j < length xs → get_or xs j y ≡ y → Contains (take k xs) y
in_front xs k j y before there is =
    let long : j < length (take k xs) = omega (arith, length-take k xs) in
    (j, long, get_or-take k xs j y before ∙ is)

-- of a list in order the first that passes is the least
pub first_is_least : {X : Type 0} (R : X → X → Type 0) (P : X → Type 0) (xs : List X) (k : ℕ) (x : X) → AllPairs R xs → k < length xs → x ≡ get_or xs k x
    → All (λ y. P y → ⊥) (take k xs) → (y : X) → Contains xs y → P y → (x ≡ y) ⊎ R x y
first_is_least {X} R P xs k x rising there is none y (j, there_j, is_j) passes =
    elim (cases_lt j k) [
      | inl before ↦ absurd (All-contains (λ z. P z → ⊥) (take k xs) y none (in_front xs k j y before there_j is_j) passes)
      | inr past ↦ elim (cases_lt k j) [
        | inl behind ↦
            inr (subst (λ (z : X). R z y) (sym is) (subst (λ (z : X). R (get_or xs k x) z) (get_or_default xs j x y there_j ∙ is_j) (rising k j x behind there_j)))
        | inr same ↦
            let place : k ≡ j = omega arith in
            inl (is ∙ ap (λ (n : ℕ). get_or xs n x) place ∙ get_or_default xs j x y there_j ∙ is_j)
      ]
    ]

-- ---- the votes of one replica

abbrev pub replica_of : SignedVote → ℕ
replica_of v = v.replica

abbrev pub view_of : SignedVote → ℕ
view_of v = v.view

pub greater : (a b : ℕ) → b < a → nat_cmp a b ≡ Greater
greater a b l = grind (arith, nat_tests)

no_lower : (o p : Ordering) → o ≡ Greater → ordering_then o p ≡ Less → ⊥
no_lower Less p e f = absurd cc
no_lower Equal p e f = absurd cc
no_lower Greater p e f = absurd cc

replica_rises : (v w : SignedVote) → IsLowerVote v w → v.replica ≤ w.replica
replica_rises v w low =
    elim (cases_lt w.replica v.replica) [
      | inl falls ↦ absurd (no_lower _ _ (greater v.replica w.replica falls) low)
      | inr le ↦ le
    ]

pub replicas_rise : (vs : List SignedVote) → AllPairs IsLowerVote vs → IsNonDecreasingBy replica_of vs
replicas_rise vs rising i j d le there =
    elim (cases_lt i j) [
      | inl less ↦ replica_rises (get_or vs i d) (get_or vs j d) (rising i j d less there)
      | inr past ↦ let same : i ≡ j = omega arith in subst (λ (n : ℕ). (get_or vs i d).replica ≤ (get_or vs n d).replica) same (omega arith)
    ]

-- what stands where in a part of a list
part_at : {X : Type 0} (xs : List X) (a n i : ℕ) (d : X) → i < n → get_or (take n (drop a xs)) i d ≡ get_or xs (a + i) d
part_at xs a n i d l = get_or-take n (drop a xs) i d l ∙ get_or-drop a xs i d

part_rises : {X : Type 0} (R : X → X → Type 0) (xs : List X) (a n : ℕ) → n ≤ length (drop a xs) → AllPairs R xs → AllPairs R (take n (drop a xs))
part_rises {X} R xs a n within rising i j d less there =
    let j_in : j < n = omega (arith, length-take-le n (drop a xs) within) in
    let whole = length-drop a xs in
    subst (λ (x : X). R x (get_or (take n (drop a xs)) j d)) (sym (part_at xs a n i d (omega arith)))
    (subst (λ (x : X). R (get_or xs (a + i) d) x) (sym (part_at xs a n j d j_in)) (rising (a + i) (a + j) d (omega arith) (omega arith)))

-- what stands before a place, and what stands from it on
pub record Parts (key : SignedVote → ℕ) (vs : List SignedVote) (n : ℕ) (Low High : ℕ → Type 0) : Type 0 where
  pub within : n ≤ length vs
  pub low : (k : ℕ) (d : SignedVote) → k < n → Low (key (get_or vs k d))
  pub high : (k : ℕ) (d : SignedVote) → n ≤ k → k < length vs → High (key (get_or vs k d))

pub parts_below : (key : SignedVote → ℕ) (vs : List SignedVote) (n r : ℕ) → n ≤ length vs → IsPartitionPoint (λ (v : SignedVote). ltb (key v) r ≡ true) (λ v. ltb (key v) r ≡ false) vs n
    → Parts key vs n (λ q. q < r) (λ q. r ≤ q)
parts_below key vs n r within point = record {
  within = within;
  low = λ k d l. ltb-true _ _ (point.0 k d (omega arith) l);
  high = λ k d l there. ltb-false _ _ (point.1 k d l there);
}

pub parts_up_to : (key : SignedVote → ℕ) (vs : List SignedVote) (n r : ℕ) → n ≤ length vs → IsPartitionPoint (λ (v : SignedVote). leb (key v) r ≡ true) (λ v. leb (key v) r ≡ false) vs n
    → Parts key vs n (λ q. q ≤ r) (λ q. r < q)
parts_up_to key vs n r within point = record {
  within = within;
  low = λ k d l. leb-true _ _ (point.0 k d (omega arith) l);
  high = λ k d l there. leb-false _ _ (point.1 k d l there);
}

-- behind the first place and before the second the replica's votes stand, and no others
pub own_between : (e : Evidence) (r a n : ℕ) → AllPairs IsLowerVote e.votes → Parts replica_of e.votes a (λ q. q < r) (λ q. r ≤ q) → Parts replica_of (drop a e.votes) n (λ q. q ≤ r) (λ q. r < q)
    → AreOwnVotes e r (take n (drop a e.votes))
own_between e r a n rising first second =
    let vs = e.votes in
    let w = second.within in
    let whole = length-drop a vs in
    let taken = length-take-le n (drop a vs) w in
    record {
      rising = part_rises IsLowerVote vs a n second.within rising;
      exact = λ v. (
        λ (i, there, is).
            (let inside : i < n = omega arith in
            let at : get_or vs (a + i) v ≡ v = sym (part_at vs a n i v inside) ∙ is in
            let low = first.high (a + i) v (omega arith) (omega arith) in
            let high = second.low i v inside in
            let here = ap replica_of (get_or-drop a vs i v) in
            let same = ap replica_of at in
            ((a + i, omega arith, at), omega arith)),
        λ ((i, there, is), by).
            (let same = ap replica_of is in
            let from : a ≤ i = elim (cases_lt i a) [ inl l ↦ (let low = first.low i v l in absurd (omega arith)) | inr le ↦ le ] in
            let place : a + (i - a) ≡ i = omega arith in
            let here = ap replica_of (get_or-drop a vs (i - a) v) in
            let again = ap (λ (m : ℕ). (get_or vs m v).replica) place in
            let inside : i - a < n =
            elim (cases_lt (i - a) n) [ inl l ↦ l | inr past ↦ (let high = second.high (i - a) v past (omega arith) in absurd (omega arith)) ]
            in
            (i - a, omega arith, part_at vs a n (i - a) v inside ∙ ap (λ (m : ℕ). get_or vs m v) place ∙ is)),
      );
    }

-- the same of lists that are those of the evidence
pub own_votes_in : (e : Evidence) (r a n : ℕ) (vs rest : List SignedVote) → vs ≡ e.votes → rest ≡ drop a vs → AllPairs IsLowerVote e.votes → Parts replica_of vs a (λ q. q < r) (λ q. r ≤ q)
    → Parts replica_of rest n (λ q. q ≤ r) (λ q. r < q) → AreOwnVotes e r (take n rest)
own_votes_in e r a n vs rest same behind rising first second =
    let whole : rest ≡ drop a e.votes = behind ∙ ap (drop a) same in
    subst (λ (l : List SignedVote). Parts replica_of l n (λ q. q ≤ r) (λ q. r < q) → AreOwnVotes e r (take n l)) (sym whole)
    (own_between e r a n rising (subst (λ (l : List SignedVote). Parts replica_of l a (λ q. q < r) (λ q. r ≤ q)) same first)) second
