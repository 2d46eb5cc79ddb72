-- The parameters of a query.
use Rattle.std.proofs.Common.{◌≡◌, ◌<◌, ◌^◌, ◌∙◌, ℕ, List, [], ◌∷◌, ◌++◌, Option, Some, None, inl, inr, ap, codes, decimal, arith, refl, sym, subst}
use Rattle.std.specs.Prelude.{MatchOption}
use Rattle.std.specs.List.{Contains}
use Rattle.std.proofs.lemmas.Fmt.{decimal_injective}
use Rattle.std.proofs.lemmas.List.{append_cancel_left}
use Rattle.std.proofs.lemmas.List.Elements.{Contains-append_right}
use Rattle.hex.specs.Hex.{encode_lower}
use Rattle.signer_calls.proofs.Ids.{one_spelled}
use Rattle.signer_calls.specs.Queries.{IsCut, IsOfPayload, IsOneMore, IsParameter, IsQuery, no_query, with_parameter}
use Rattle.signer_calls.specs.declared.query.Parameter.{Parameter}
use Rattle.signer_calls.specs.declared.query.Parameter.TheVariants.{Chain, First, Most, Payload}
use Rattle.signer_calls.specs.declared.query.Query.{Query}

-- ---- a number is printed in one way

pub one_number : (digits : List ℕ) (m n : ℕ) → m < 2 ^ 64 → n < 2 ^ 64 → digits ≡ decimal m → digits ≡ decimal n → m ≡ n
one_number digits m n low_m low_n is_m is_n = decimal_injective m n low_m low_n (sym is_m ∙ is_n)

-- ---- a text is one parameter

head_of : {x y : ℕ} {xs ys : List ℕ} → (x ∷ xs) ≡ (y ∷ ys) → (x ≡ y) × (xs ≡ ys)
head_of e = (cc, cc)

pub one_parameter : (text : List ℕ) (p q : Parameter) → IsParameter text p → IsParameter text q → p ≡ q
one_parameter text (Chain i) (Chain j) h k =
    ap (λ (id : List ℕ). Chain id) (one_spelled i j h.0 k.0 (append_cancel_left (codes "chain=") (encode_lower i) (encode_lower j) (sym h.1 ∙ k.1)))
one_parameter text (First m) (First n) h k =
    let same = decimal_injective m n (omega (arith, h.0)) (omega (arith, k.0)) (append_cancel_left (codes "first=") (decimal m) (decimal n) (sym h.1 ∙ k.1)) in
    cc same
one_parameter text (Most m) (Most n) h k =
    let same = decimal_injective m n (omega (arith, h.0)) (omega (arith, k.0)) (append_cancel_left (codes "most=") (decimal m) (decimal n) (sym h.1 ∙ k.1)) in
    cc same
one_parameter text (Payload i) (Payload j) h k =
    ap (λ (id : List ℕ). Payload id) (one_spelled i j h.0 k.0 (append_cancel_left (codes "payload=") (encode_lower i) (encode_lower j) (sym h.1 ∙ k.1)))
one_parameter text (Chain i) (Payload n) h k = let first = head_of (sym h.1 ∙ k.1) in absurd (omega (arith, first.0))
one_parameter text (First i) (Payload n) h k = let first = head_of (sym h.1 ∙ k.1) in absurd (omega (arith, first.0))
one_parameter text (Most i) (Payload n) h k = let first = head_of (sym h.1 ∙ k.1) in absurd (omega (arith, first.0))
one_parameter text (Payload i) (Chain n) h k = let first = head_of (sym h.1 ∙ k.1) in absurd (omega (arith, first.0))
one_parameter text (Payload i) (First n) h k = let first = head_of (sym h.1 ∙ k.1) in absurd (omega (arith, first.0))
one_parameter text (Payload i) (Most n) h k = let first = head_of (sym h.1 ∙ k.1) in absurd (omega (arith, first.0))
one_parameter text (Chain i) (First n) h k = let first = head_of (sym h.1 ∙ k.1) in absurd (omega (arith, first.0))
one_parameter text (Chain i) (Most n) h k = let first = head_of (sym h.1 ∙ k.1) in absurd (omega (arith, first.0))
one_parameter text (First m) (Chain j) h k = let first = head_of (sym h.1 ∙ k.1) in absurd (omega (arith, first.0))
one_parameter text (First m) (Most n) h k = let first = head_of (sym h.1 ∙ k.1) in absurd (omega (arith, first.0))
one_parameter text (Most m) (Chain j) h k = let first = head_of (sym h.1 ∙ k.1) in absurd (omega (arith, first.0))
one_parameter text (Most m) (First n) h k = let first = head_of (sym h.1 ∙ k.1) in absurd (omega (arith, first.0))

-- ---- a text has one first `&`

rest_of : (x : ℕ) (xs : List ℕ) → (Contains (x ∷ xs) 38 → ⊥) → Contains xs 38 → ⊥
rest_of x xs none c = none (Contains-append_right (x ∷ []) xs 38 c)

one_cut : (a b c d : List ℕ) → (Contains a 38 → ⊥) → (Contains c 38 → ⊥) → a ++ 38 ∷ b ≡ c ++ 38 ∷ d → (a ≡ c) × (b ≡ d)
one_cut [] b [] d none_a none_c e = (refl, (head_of e).1)
one_cut [] b (y ∷ c) d none_a none_c e = absurd (none_c (0, omega arith, sym (head_of e).0))
one_cut (x ∷ a) b [] d none_a none_c e = absurd (none_a (0, omega arith, (head_of e).0))
one_cut (x ∷ a) b (y ∷ c) d none_a none_c e =
    let both = head_of e in
    let more = one_cut a b c d (rest_of x a none_a) (rest_of y c none_c) both.1 in
    let first = both.0 in
    let second = more.0 in
    (cc, more.1)

-- a text with an `&` is cut there
contains_cut : (front back : List ℕ) → Contains (front ++ 38 ∷ back) 38
contains_cut front back = Contains-append_right front (38 ∷ back) 38 (0, omega arith, refl)

not_cut : (text front back : List ℕ) → (Contains text 38 → ⊥) → text ≡ front ++ 38 ∷ back → ⊥
not_cut text front back uncut cut = uncut (subst (λ (t : List ℕ). Contains t 38) (sym cut) (contains_cut front back))

-- ---- one parameter more

abbrev Finds : (Query → Type 0) → Option Query → Type 0
Finds Is found = MatchOption found ((q : Query) → Is q → ⊥) Is

-- what it comes to is that of the parameter
one_after : (text : List ℕ) (before : Query) (p : Parameter) (q : Query) → IsParameter text p → IsOneMore before text q → with_parameter before p ≡ Some q
one_after text before p q is (p', is', after) = ap (λ (x : Parameter). with_parameter before x) (one_parameter text p p' is is') ∙ after

pub found_one : (text : List ℕ) (before : Query) (p : Parameter) (found : Option Query) → IsParameter text p → found ≡ with_parameter before p
    → Finds (IsOneMore before text) found
found_one text before p (Some q) is after = (p, is, sym after)
found_one text before p None is after = λ q one. let never : None ≡ Some q = after ∙ one_after text before p q is one in cc never

one_more : (text : List ℕ) (before q r : Query) → IsOneMore before text q → IsOneMore before text r → q ≡ r
one_more text before q r (p, is, after) one = let same : Some q ≡ Some r = sym after ∙ one_after text before p r is one in cc same

-- ---- more behind an `&`

module _ (More : Query → List ℕ → Query → Type 0) where
  pub found_uncut : (text : List ℕ) (before : Query) (found : Option Query) → (Contains text 38 → ⊥) → Finds (IsOneMore before text) found
      → Finds (IsCut More before text) found
  found_uncut text before (Some q) uncut found = inl (uncut, found)
  found_uncut text before None uncut found = λ q is. elim is [
    | inl (uncut', one) ↦ found q one
    | inr (front, back, one, cut, none, first, more) ↦ not_cut text front back uncut cut
  ]

  -- what is wrong with the first is wrong with all
  pub none_in_front : (text front back : List ℕ) (before : Query) → text ≡ front ++ 38 ∷ back → (Contains front 38 → ⊥)
      → ((q : Query) → IsOneMore before front q → ⊥) → (q : Query) → IsCut More before text q → ⊥
  none_in_front text front back before cut none wrong q (inl (uncut, one)) = not_cut text front back uncut cut
  none_in_front text front back before cut none wrong q (inr (front', back', one, cut', none', first, more)) =
      let same = one_cut front' back' front back none' none (sym cut' ∙ cut) in
      wrong one (subst (λ (t : List ℕ). IsOneMore before t one) same.0 first)

  pub found_behind : (text front back : List ℕ) (before one : Query) (found : Option Query) → text ≡ front ++ 38 ∷ back → (Contains front 38 → ⊥)
      → IsOneMore before front one → Finds (More one back) found → Finds (IsCut More before text) found
  found_behind text front back before one (Some q) cut none first found = inr (front, back, one, cut, none, first, found)
  found_behind text front back before one None cut none first found = λ q is. elim is [
    | inl (uncut, last) ↦ not_cut text front back uncut cut
    | inr (front', back', one', cut', none', first', more) ↦
        let same = one_cut front' back' front back none' none (sym cut' ∙ cut) in
        let one_same = one_more front before one' one (subst (λ (t : List ℕ). IsOneMore before t one') same.0 first') first in
        found q (subst (λ (x : Query). More x back q) one_same (subst (λ (t : List ℕ). More one' t q) same.1 more))
  ]

  -- a text comes to one query, where what is behind does
  pub one_of_cut : ((text : List ℕ) (before q r : Query) → More before text q → More before text r → q ≡ r)
      → (text : List ℕ) (before q r : Query) → IsCut More before text q → IsCut More before text r → q ≡ r
  one_of_cut last text before q r (inl (uncut, one)) (inl (uncut', one')) = one_more text before q r one one'
  one_of_cut last text before q r (inl (uncut, one)) (inr (front, back, mid, cut, none, first, more)) = absurd (not_cut text front back uncut cut)
  one_of_cut last text before q r (inr (front, back, mid, cut, none, first, more)) (inl (uncut, one)) = absurd (not_cut text front back uncut cut)
  one_of_cut last text before q r (inr (front, back, mid, cut, none, first, more)) (inr (front', back', mid', cut', none', first', more')) =
      let same = one_cut front back front' back' none none' (sym cut ∙ cut') in
      let mids = one_more front' before mid mid' (subst (λ (t : List ℕ). IsOneMore before t mid) same.0 first) first' in
      last back' mid' q r (subst (λ (x : Query). More x back' q) mids (subst (λ (t : List ℕ). More mid t q) same.1 more)) more'

-- a query names one thing
pub one_of_three : (text : List ℕ) (before q r : Query) → IsCut (IsCut IsOneMore) before text q → IsCut (IsCut IsOneMore) before text r → q ≡ r
one_of_three = one_of_cut (IsCut IsOneMore) (one_of_cut IsOneMore one_more)

pub one_query : (text : Option (List ℕ)) (q r : Query) → IsQuery text q → IsQuery text r → q ≡ r
one_query None q r is is' = is ∙ sym is'
one_query (Some text) q r is is' = one_of_three text no_query q r is is'

-- .. so what is so of one that it names, is so of each
pub of_payload : (text : Option (List ℕ)) (q : Query) → IsQuery text q → ((named : Query) × IsQuery text named × IsOfPayload named) → IsOfPayload q
of_payload text q is (named, is', of) = subst (λ (x : Query). IsOfPayload x) (one_query text named q is' is) of
