-- What the screen passes over.
use Rattle.std.proofs.Common.{◌≡◌, ◌⊎◌, Bool, true, false, not, inl, inr, ℕ, ◌-◌, ◌<◌, ◌≤◌, List, length, get_or, take, ltb-true, refl, sym, ◌∙◌, ap, subst, arith}
use Rattle.std.specs.Prelude.{◌↔◌, IsTrue, nat_eq, nat_lt}
use Rattle.std.specs.Cmp.Lexicographic.{slice_cmp}
use Rattle.std.specs.List.{All, AllPairs}
use Rattle.std.specs.List.Sorted.{IsNonDecreasingBy}
use Rattle.std.specs.Ordering.{is_gt, nat_cmp, ordering_reverse, ordering_then}
use Rattle.std.specs.declared.cmp.Ordering.{Ordering}
use Rattle.std.specs.declared.cmp.Ordering.TheVariants.{Less, Equal, Greater}
use lib.Pointwise.{pointwise}
use Rattle.std.proofs.lemmas.Bool.{cases_lt}
use Rattle.std.proofs.lemmas.Bool.Decides.{nat_tests}
use Rattle.std.proofs.lemmas.Cmp.{nat_list_cmp_total, tied_itself}
use Rattle.std.proofs.lemmas.List.{get_or_default}
use Rattle.std.proofs.lemmas.List.Elements.{All-contains, Contains-get_or}
use Rattle.std.proofs.lemmas.Map.Lookups.{exact_bytes}
use Rattle.std.proofs.lemmas.Slice.Eq.{bytes_eq-Decides}
use Rattle.blocks.specs.Headers.{Header}
use Rattle.certificates.specs.declared.vote.SignedVote.{SignedVote}
use Rattle.audit_evidence.specs.Evidence.{Evidence, IsEvidence}
use Rattle.certificates.specs.VoteOrder.{IsLowerVote}
use Rattle.verdict_format.specs.declared.parts.Shown.TheVariants.{DoubleVote, LockViolation}
use Rattle.culprit_search.specs.Searches.{AreByOne, AreOwnVotes, BeginsAt, EndsAt, HasNoLockAbove, IsFoundAt, IsOnParentBelow, LowerHaveNoLockAbove, NoneBreaksWith, NoneIsDouble, StandBetween}
use Rattle.culprit_search.proofs.Breaches.{only_one}
use Rattle.culprit_search.proofs.VotesInOrder.{Parts, greater, in_front, view_of}

-- the votes of a replica are by one
pub by_one : (e : Evidence) (r : ℕ) (own : List SignedVote) → AreOwnVotes e r own → AreByOne own
by_one e r own are v w in_v in_w = ((are.exact v).0 in_v).1 ∙ sym ((are.exact w).0 in_w).1

-- ---- the votes of one replica rise by view, and those of a view by id

tie : (a b : ℕ) → a ≡ b → nat_cmp a b ≡ Equal
tie a b e = grind (arith, nat_tests)

behind_tie : (o p : Ordering) → o ≡ Equal → ordering_then o p ≡ Less → p ≡ Less
behind_tie Less p e f = absurd cc
behind_tie Equal p e f = f
behind_tie Greater p e f = absurd cc

not_greater : (o p : Ordering) → ordering_then o p ≡ Less → is_gt o ≡ false
not_greater Less p f = refl
not_greater Equal p f = refl
not_greater Greater p f = absurd cc

not_falling : (a b : ℕ) → is_gt (nat_cmp a b) ≡ false → a ≤ b
not_falling a b up =
    elim (cases_lt b a) [
      | inl falls ↦ absurd (let above = ap is_gt (greater a b falls) in cc)
      | inr le ↦ le
    ]

view_rises : (v w : SignedVote) → v.replica ≡ w.replica → IsLowerVote v w → v.view ≤ w.view
view_rises v w same low = not_falling v.view w.view (not_greater _ _ (behind_tie _ _ (tie v.replica w.replica same) low))

id_rises : (v w : SignedVote) → v.replica ≡ w.replica → v.view ≡ w.view → IsLowerVote v w → is_gt (slice_cmp nat_cmp v.id w.id) ≡ false
id_rises v w same view low = not_greater _ _ (behind_tie _ _ (tie v.view w.view view) (behind_tie _ _ (tie v.replica w.replica same) low))

one_replica : (own : List SignedVote) (i j : ℕ) (d : SignedVote) → AreByOne own → i < length own → j < length own → (get_or own i d).replica ≡ (get_or own j d).replica
one_replica own i j d one in_i in_j = one (get_or own i d) (get_or own j d) (Contains-get_or own i d in_i) (Contains-get_or own j d in_j)

pub views_rise : (own : List SignedVote) → AllPairs IsLowerVote own → AreByOne own → IsNonDecreasingBy view_of own
views_rise own rising one i j d le there =
    elim (cases_lt i j) [
      | inl less ↦ view_rises (get_or own i d) (get_or own j d) (one_replica own i j d one (omega arith) there) (rising i j d less there)
      | inr past ↦ let same : i ≡ j = omega arith in subst (λ (n : ℕ). (get_or own i d).view ≤ (get_or own n d).view) same (omega arith)
    ]

ids_rise : (own : List SignedVote) (i j : ℕ) (d : SignedVote) → AllPairs IsLowerVote own → AreByOne own → i ≤ j → j < length own → (get_or own i d).view ≡ (get_or own j d).view
    → is_gt (slice_cmp nat_cmp (get_or own i d).id (get_or own j d).id) ≡ false
ids_rise own i j d rising one le there view =
    elim (cases_lt i j) [
      | inl less ↦ id_rises (get_or own i d) (get_or own j d) (one_replica own i j d one (omega arith) there) view (rising i j d less there)
      | inr past ↦
          let same : i ≡ j = omega arith in
          subst (λ (n : ℕ). is_gt (slice_cmp nat_cmp (get_or own i d).id (get_or own n d).id) ≡ false) same (ap is_gt (tied_itself nat_list_cmp_total (get_or own i d).id))
    ]

-- ---- no double vote

-- what is neither above nor below is equal
tied : (o p : Ordering) → o ≡ ordering_reverse p → is_gt o ≡ false → is_gt p ≡ false → o ≡ Equal
tied o Less e f g = absurd (let above = ap is_gt e in cc)
tied o Equal e f g = e
tied o Greater e f g = absurd cc

between : (a x b : List ℕ) → is_gt (slice_cmp nat_cmp a x) ≡ false → is_gt (slice_cmp nat_cmp x b) ≡ false → b ≡ a → x ≡ a
between a x b low high same =
    let back = subst (λ (y : List ℕ). is_gt (slice_cmp nat_cmp x y) ≡ false) same high in
    sym (exact_bytes a x (tied (slice_cmp nat_cmp a x) (slice_cmp nat_cmp x a) (nat_list_cmp_total.antisymm a x) low back))

-- where the views below this one end, and where those up to it do
pub stand_between : (own : List SignedVote) (view start end : ℕ) → Parts view_of own start (λ q. q < view) (λ q. view ≤ q) → Parts view_of own end (λ q. q ≤ view) (λ q. view < q) → StandBetween own view start end
stand_between own view start end first last = record {
  within = last.within;
  exact = λ i d there. (
    λ inside. (let from = first.high i d inside.0 there in let to = last.low i d inside.1 in omega arith),
    λ same. (
      elim (cases_lt i start) [ inl l ↦ (let low = first.low i d l in absurd (omega arith)) | inr le ↦ le ],
      elim (cases_lt i end) [ inl l ↦ l | inr past ↦ (let high = last.high i d past there in absurd (omega arith)) ],
    ),
  );
}

-- where one vote and the one before it tell that a view begins
pub begins : (own : List SignedVote) (view place : ℕ) (x y : SignedVote) → IsNonDecreasingBy view_of own → place < length own → get_or own place x ≡ x → view ≤ x.view
    → (place ≡ 0) ⊎ ((get_or own (place - 1) y ≡ y) × (y.view < view)) → BeginsAt own view place
begins own view place x y up there at high low = record {
  before = λ i d less. elim low [
    | inl none ↦ absurd (omega arith)
    | inr (is, below) ↦
        let le = up i (place - 1) y (omega arith) (omega arith) in
        let here : (get_or own (place - 1) y).view ≡ y.view = ap view_of is in
        let same : (get_or own i y).view ≡ (get_or own i d).view = ap view_of (get_or_default own i y d (omega arith)) in
        omega arith
  ];
  after = λ i d le inside.
      (let more = up place i x le inside in
      let here : (get_or own place x).view ≡ x.view = ap view_of at in
      let same : (get_or own i x).view ≡ (get_or own i d).view = ap view_of (get_or_default own i x d inside) in
      omega arith);
}

-- .. and one vote and the one behind it that it ends
pub ends : (own : List SignedVote) (view place : ℕ) (x y : SignedVote) → IsNonDecreasingBy view_of own → 1 ≤ place → place ≤ length own → get_or own (place - 1) x ≡ x → x.view ≤ view
    → (place ≡ length own) ⊎ ((get_or own place y ≡ y) × (view < y.view)) → EndsAt own view place
ends own view place x y up some within at low high = record {
  within = within;
  before = λ i d less.
      (let le = up i (place - 1) x (omega arith) (omega arith) in
      let here : (get_or own (place - 1) x).view ≡ x.view = ap view_of at in
      let same : (get_or own i x).view ≡ (get_or own i d).view = ap view_of (get_or_default own i x d (omega arith)) in
      omega arith);
  after = λ i d le inside. elim high [
    | inl all ↦ absurd (omega arith)
    | inr (is, above) ↦
        let more = up place i y le inside in
        let here : (get_or own place y).view ≡ y.view = ap view_of is in
        let same : (get_or own i y).view ≡ (get_or own i d).view = ap view_of (get_or_default own i y d inside) in
        omega arith
  ];
}

-- the place of a vote that were a double vote with w
inside_of : (own : List SignedVote) (w v : SignedVote) (start end i : ℕ) → StandBetween own w.view start end → i < length own → get_or own i v ≡ v → v.view ≡ w.view → (start ≤ i) × (i < end)
inside_of own w v start end i stand there is same = (stand.exact i v there).1 (ap view_of is ∙ same)

-- there are none
pub none_of_view : (own : List SignedVote) (w : SignedVote) (start end : ℕ) → StandBetween own w.view start end → end ≤ start → NoneIsDouble own w
none_of_view own w start end stand none v (i, there, is) double =
    let inside = inside_of own w v start end i stand there is double.same_view in
    let from = inside.0 in
    let to = inside.1 in
    absurd (omega arith)

-- the first and the last are on w's block
pub all_on_one : (own : List SignedVote) (w : SignedVote) (start end : ℕ) (d : SignedVote) → AllPairs IsLowerVote own → AreByOne own → StandBetween own w.view start end
    → (get_or own start d).id ≡ w.id → (get_or own (end - 1) d).id ≡ w.id → NoneIsDouble own w
all_on_one own w start end d rising one stand first last v (i, there, is) double =
    let inside = inside_of own w v start end i stand there is double.same_view in
    let from = inside.0 in
    let to = inside.1 in
    let within = stand.within in
    let here : (get_or own i d).view ≡ w.view = (stand.exact i d there).0 inside in
    let front : (get_or own start d).view ≡ w.view = (stand.exact start d (omega arith)).0 (omega arith, omega arith) in
    let back : (get_or own (end - 1) d).view ≡ w.view = (stand.exact (end - 1) d (omega arith)).0 (omega arith, omega arith) in
    let low = ids_rise own start i d rising one from there (front ∙ sym here) in
    let high = ids_rise own i (end - 1) d rising one (omega arith) (omega arith) (here ∙ sym back) in
    let at : get_or own i d ≡ v = get_or_default own i d v there ∙ is in
    double.different_ids
    (ap (λ (x : SignedVote). x.id) (sym at) ∙ between (get_or own start d).id (get_or own i d).id (get_or own (end - 1) d).id low high (last ∙ sym first) ∙ first)

-- a test of two ids
pub same_ids : (differ : Bool) (a b : List ℕ) → differ ≡ not (pointwise nat_eq a b) → differ ≡ false → a ≡ b
same_ids differ a b is none = by_test (pointwise nat_eq a b) (bytes_eq-Decides a b) (sym is ∙ none)
  where
    by_test : (r : Bool) → IsTrue r ↔ (a ≡ b) → not r ≡ false → a ≡ b
    by_test true test e = test.0 refl
    by_test false test e = absurd cc

-- ---- no lock violation

-- all votes below a view were looked at
pub all_lower : (e : Evidence) (own : List SignedVote) (k n view : ℕ) (d : SignedVote) → AllPairs IsLowerVote own → AreByOne own → All (HasNoLockAbove e n) (take k own)
    → (k < length own → view ≤ (get_or own k d).view) → LowerHaveNoLockAbove e own view n
all_lower e own k n view d rising one looked_at next v (i, there, is) below =
    elim (cases_lt i k) [
      | inl before ↦ All-contains (HasNoLockAbove e n) (take k own) v looked_at (in_front own k i v before there is)
      | inr past ↦
          (let up = views_rise own rising one k i d past there in
          let here = next (omega arith) in
          let at : (get_or own i d).view ≡ v.view = ap view_of (get_or_default own i d v there ∙ is) in
          absurd (omega arith))
    ]

-- w's block is the one that was found
pub on_parent_below : (e : Evidence) (w : SignedVote) (view read : ℕ) (h : Header) → IsEvidence e → IsFoundAt e.headers w.id w.view h → h.parent_view ≡ read → IsTrue (nat_lt read view) ↔ IsOnParentBelow e w view
on_parent_below e w view read h is found same = (
  λ less. (h, found, (let below : read < view = ltb-true read view less in omega arith)),
  λ (other, there, below).
      (let one : other ≡ h = only_one e.headers w.id w.view w.view other h is.headers_rise there found in
      let parents = ap (λ (x : Header). x.parent_view) one in
      let less : read < view = omega arith in
      grind (arith, nat_tests)),
)

-- neither a double vote nor a lock violation
pub none_breaks : (e : Evidence) (own : List SignedVote) (w : SignedVote) (n : ℕ) → LowerHaveNoLockAbove e own w.view n → NoneIsDouble own w → (IsOnParentBelow e w n → ⊥) → NoneBreaksWith e own w
none_breaks e own w n lower no_double not_below v there (DoubleVote, shown) = no_double v there shown
none_breaks e own w n lower no_double not_below v there (LockViolation h, (known, broken)) =
    let lock : h.parent.parent_view ≤ n = lower v there broken.later h.parent.parent_view (record {
      block = h.earlier;
      block_found = (known.earlier, record { id_is = broken.e_id; view_is = broken.e_view });
      parent = h.parent;
      parent_found = (known.parent, record { id_is = sym broken.parent.id; view_is = sym broken.parent.view });
      view_is = refl;
    }) in
    let older = broken.older_parent in
    not_below (h.later, (known.later, record { id_is = broken.w_id; view_is = broken.w_view }), omega arith)
