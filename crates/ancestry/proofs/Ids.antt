-- Ids of known headers: each names one header, and where ids rise a search finds it.
use Rattle.std.proofs.Common.{◌≡◌, ◌≢◌, ◌↔◌, Bool, inl, inr, ℕ, ◌+◌, ◌<◌, ◌≤◌, List, length, get_or, Option, Some, None, sym, ap, subst, ◌∙◌, arith}
use Rattle.std.specs.Prelude.{MatchOption, IsTrue, nat_eq}
use lib.Pointwise.{pointwise}
use Rattle.std.proofs.lemmas.Slice.Eq.{bytes_eq-Decides}
use Rattle.std.specs.List.{All, AllPairs, Contains, HoldsAt}
use Rattle.std.specs.List.Sorted.{IsNonDecreasingBy, IsPartitionPoint}
use Rattle.std.specs.Cmp.Lexicographic.{slice_cmp}
use Rattle.std.specs.Ordering.{nat_cmp, ordering_index, ordering_reverse, is_lt}
use Rattle.std.specs.FinMap.{slice_cmp-IsAntisymmetric, nat_cmp-IsAntisymmetric}
use Rattle.std.specs.declared.cmp.Ordering.{Ordering}
use Rattle.std.specs.declared.cmp.Ordering.TheVariants.{Less, Equal, Greater}
use Rattle.std.proofs.lemmas.Bool.{cases_lt}
use Rattle.std.proofs.lemmas.List.{get_or_default, get_or_past}
use Rattle.std.proofs.lemmas.List.Elements.{All-contains, Contains-get_or}
use Rattle.std.proofs.lemmas.List.Sorted.{searchable_from_sorted}
use Rattle.std.proofs.lemmas.Cmp.{nat_list_cmp_total, tied_itself}
use Rattle.blocks.specs.Headers.{Header, header_id}
use Rattle.blocks.specs.Chains.{NoCollision}
use Rattle.blocks.proofs.Members.{Has-from_Contains, Contains-from_Has, Contains-first, Contains-later}
use Rattle.blocks.specs.Headers.{HasLowerId}
use Rattle.ancestry.specs.Known.{Known, IsKnown, all_of}
use Rattle.ancestry.specs.Links.{header_at}

abbrev pub ranked : List ℕ → List ℕ → Ordering
ranked x y = slice_cmp nat_cmp x y

-- texts that are ranked equal are one
same_text : (x y : List ℕ) → ranked x y ≡ Equal → x ≡ y
same_text = slice_cmp-IsAntisymmetric nat_cmp-IsAntisymmetric

-- a text is not below itself
not_below : (x y : List ℕ) → x ≡ y → ranked x y ≡ Less → ⊥
not_below x y same less =
    let tie : ranked x x ≡ Equal = tied_itself nat_list_cmp_total x in
    let low : ranked x x ≡ Less = ap (λ (t : List ℕ). ranked x t) same ∙ less in
    cc

-- ---- each id names one header

same_place : (hs : List Header) (i j : ℕ) (d : Header) → AllPairs HasLowerId hs → i < length hs → j < length hs → header_id (get_or hs i d) ≡ header_id (get_or hs j d) → i ≡ j
same_place hs i j d rising in_i in_j same =
    elim (cases_lt i j) [
      | inl less ↦ absurd (not_below _ _ same (rising i j d less in_j))
      | inr past ↦ elim (cases_lt j i) [
        | inl more ↦ absurd (not_below _ _ (sym same) (rising j i d more in_i))
        | inr le ↦ omega arith
      ]
    ]

pub apart_in : (hs : List Header) → AllPairs HasLowerId hs → NoCollision hs
apart_in hs rising h k (i, in_i, at_i) (j, in_j, at_j) same =
    let second : get_or hs j h ≡ k = get_or_default hs j h k in_j ∙ at_j in
    let place : i ≡ j =
    same_place hs i j h rising in_i in_j (ap (λ (x : Header). header_id x) at_i ∙ same ∙ sym (ap (λ (x : Header). header_id x) second)) in
    sym at_i ∙ ap (λ (n : ℕ). get_or hs n h) place ∙ second

pub apart : (known : Known) → IsKnown known → NoCollision (all_of known)
apart known is h k in_h in_k same =
    elim (Has-from_Contains (all_of known) h in_h) [
      | inl first ↦ elim (Has-from_Contains (all_of known) k in_k) [
        | inl second ↦ sym first ∙ second
        | inr later ↦ sym first ∙ sym (is.alone k (Contains-from_Has known.headers k later) (sym same ∙ ap (λ (x : Header). header_id x) (sym first)))
      ]
      | inr later ↦ elim (Has-from_Contains (all_of known) k in_k) [
        | inl second ↦ is.alone h (Contains-from_Has known.headers h later) (same ∙ ap (λ (x : Header). header_id x) (sym second)) ∙ second
        | inr more ↦ apart_in known.headers is.rising h k (Contains-from_Has known.headers h later) (Contains-from_Has known.headers k more) same
      ]
    ]

-- ---- searching

-- where ids rise, a search by an id meets no lower answer behind a higher one
pub rises : (hs : List Header) (id : List ℕ) → AllPairs HasLowerId hs → IsNonDecreasingBy (λ h. ordering_index (ranked (header_id h) id)) hs
rises hs id rising =
    searchable_from_sorted nat_list_cmp_total header_id hs id (λ k d _ less.
    ap is_lt (nat_list_cmp_total.antisymm (header_id (get_or hs (k + 1) d)) (header_id (get_or hs k d)) ∙ ap ordering_reverse (rising k (k + 1) d (omega arith) less)))

pub header_found : (hs : List Header) (id : List ℕ) (k : ℕ) → HoldsAt (λ x. ranked (header_id x) id ≡ Equal) hs k → HoldsAt (λ x. header_id x ≡ id) hs k
header_found hs id k found d = same_text (header_id (get_or hs k d)) id (found d)

pub header_missing : (hs : List Header) (id : List ℕ) (place : ℕ) → AllPairs HasLowerId hs
    → (IsNonDecreasingBy (λ h. ordering_index (ranked (header_id h) id)) hs → IsPartitionPoint (λ h. ranked (header_id h) id ≡ Less) (λ h. ranked (header_id h) id ≡ Greater) hs place)
    → All (λ h. header_id h ≢ id) hs
header_missing hs id place rising searched k d there same =
    let parts = searched (rises hs id rising) in
    let tie : ranked (header_id (get_or hs k d)) id ≡ Equal =
    ap (λ (t : List ℕ). ranked t id) same ∙ tied_itself nat_list_cmp_total id in
    elim (cases_lt k place) [
      | inl before ↦ let less : ranked (header_id (get_or hs k d)) id ≡ Less = parts.0 k d (omega arith) before in cc
      | inr behind ↦ let more : ranked (header_id (get_or hs k d)) id ≡ Greater = parts.1 k d behind there in cc
    ]

-- ---- genesis besides

pub genesis_known : (known : Known) → Contains (all_of known) known.genesis
genesis_known known = Contains-first known.genesis known.headers

-- what a search among the headers finds where it is not the id of genesis
pub known_position : (known : Known) (id : List ℕ) (o : Option ℕ) → header_id known.genesis ≢ id
    → MatchOption o (All (λ h. header_id h ≢ id) known.headers) (λ k. (k < length known.headers) × HoldsAt (λ h. header_id h ≡ id) known.headers k)
    → MatchOption o ((h : Header) → Contains (all_of known) h → header_id h ≢ id) (λ k. (k ≤ length known.headers) × (header_id (header_at known k) ≡ id))
known_position known id None other none = λ h there same.
    elim (Has-from_Contains (all_of known) h there) [
      | inl first ↦ other (ap (λ (x : Header). header_id x) first ∙ same)
      | inr later ↦ All-contains (λ x. header_id x ≢ id) known.headers h none (Contains-from_Has known.headers h later) same
    ]
known_position known id (Some k) other found = (omega arith, found.1 known.genesis)

-- behind the headers stands genesis
pub genesis_at : (known : Known) (n : ℕ) → length known.headers ≤ n → header_at known n ≡ known.genesis
genesis_at known n past = get_or_past known.headers n known.genesis past

-- what stands at a position is known
pub at_known : (known : Known) (n : ℕ) → Contains (all_of known) (header_at known n)
at_known known n =
    elim (cases_lt n (length known.headers)) [
      | inl inside ↦ Contains-later known.genesis known.headers (header_at known n) (Contains-get_or known.headers n known.genesis inside)
      | inr past ↦ subst (λ (x : Header). Contains (all_of known) x) (sym (genesis_at known n past)) (genesis_known known)
    ]

-- a test whether two ids are one
pub ids_decide : (r : Bool) (x y : List ℕ) → r ≡ pointwise nat_eq x y → IsTrue r ↔ (x ≡ y)
ids_decide r x y e = subst (λ (b : Bool). IsTrue b ↔ (x ≡ y)) (sym e) (bytes_eq-Decides x y)

-- a test whether two headers have one id
pub headers_decide : (h k : Header) (r : Bool) (x y : List ℕ) → x ≡ header_id h → y ≡ header_id k → r ≡ pointwise nat_eq x y → IsTrue r ↔ (header_id h ≡ header_id k)
headers_decide h k r x y e f test =
    let d = ids_decide r x y test in
    (λ t. sym e ∙ d.0 t ∙ f, λ same. d.1 (e ∙ same ∙ sym f))
