-- Choosing headers of a list one after the other.
use Rattle.std.proofs.Common.{◌≡◌, inl, inr, ℕ, ◌+◌, ◌<◌, List, [], ◌∷◌, ◌++◌, length, get_or, take, sym, ◌∙◌, ap, subst, arith}
use Rattle.std.specs.List.{AllPairs, Contains}
use Rattle.std.proofs.lemmas.List.{get_or_default, get_or-take, length-take-le, take_more}
use Rattle.std.proofs.lemmas.List.Elements.{Contains-append_left, Contains-get_or, Contains-push, Contains-push_cases}
use Rattle.std.proofs.lemmas.List.Quantifiers.{all_pairs_push}
use Rattle.blocks.specs.Headers.{Header, HasLowerId}
use Rattle.ancestry.proofs.Walks.{not_in_none}
use Rattle.audit_commits.specs.Chosen.{AreThose}

pub chosen_none : (Is : Header → Type 0) → AreThose Is [] []
chosen_none Is = record {
  rising = λ i j d l m. absurd (omega arith);
  exact = λ h. (λ c. absurd (not_in_none h c), λ b. absurd (not_in_none h b.0));
}

passed_over : (Is : Header → Type 0) (us ys : List Header) (x : Header) → AreThose Is us ys → (Is x → ⊥) → AreThose Is (us ++ x ∷ []) ys
passed_over Is us ys x a other = record {
  rising = a.rising;
  exact = λ h. (
    λ c. (let b = (a.exact h).0 c in (Contains-append_left us (x ∷ []) h b.0, b.1)),
    λ b. elim (Contains-push_cases us x h b.0) [
      | inl there ↦ (a.exact h).1 (there, b.1)
      | inr same ↦ absurd (other (subst Is (sym same) b.1))
    ],
  );
}

taken : (Is : Header → Type 0) (us ys : List Header) (x : Header) → ((y : Header) → Contains us y → HasLowerId y x) → AreThose Is us ys → Is x → AreThose Is (us ++ x ∷ []) (ys ++ x ∷ [])
taken Is us ys x lower a is = record {
  rising = all_pairs_push HasLowerId ys x a.rising (λ k d l. lower (get_or ys k d) ((a.exact (get_or ys k d)).0 (Contains-get_or ys k d l)).0);
  exact = λ h. (
    λ c. elim (Contains-push_cases ys x h c) [
      | inl there ↦ (let b = (a.exact h).0 there in (Contains-append_left us (x ∷ []) h b.0, b.1))
      | inr same ↦ (subst (Contains (us ++ x ∷ [])) same (Contains-push us x), subst Is same is)
    ],
    λ b. elim (Contains-push_cases us x h b.0) [
      | inl there ↦ Contains-append_left ys (x ∷ []) h ((a.exact h).1 (there, b.1))
      | inr same ↦ subst (Contains (ys ++ x ∷ [])) same (Contains-push ys x)
    ],
  );
}

-- ---- by places

more_is : (hs : List Header) (i : ℕ) (x : Header) → i < length hs → x ≡ get_or hs i x → take i hs ++ x ∷ [] ≡ take (i + 1) hs
more_is hs i x there is = ap (λ (h : Header). take i hs ++ h ∷ []) is ∙ sym (take_more hs i x there)

lower_before : (hs : List Header) (i : ℕ) (x : Header) → AllPairs HasLowerId hs → i < length hs → x ≡ get_or hs i x → (y : Header) → Contains (take i hs) y → HasLowerId y x
lower_before hs i x rising there is y c =
    let len : length (take i hs) ≡ i = length-take-le i hs (omega arith) in
    let in_take = c.1 in
    let small : c.0 < i = omega arith in
    let at : get_or hs c.0 x ≡ y = sym (get_or-take i hs c.0 x small) ∙ get_or_default (take i hs) c.0 x y in_take ∙ c.2 in
    subst (λ (h : Header). HasLowerId h x) at (subst (λ (h : Header). HasLowerId (get_or hs c.0 x) h) (sym is) (rising c.0 i x small there))

pub chosen_over : (Is : Header → Type 0) (hs ys : List Header) (i : ℕ) (x : Header) → i < length hs → x ≡ get_or hs i x
    → AreThose Is (take i hs) ys → (Is x → ⊥) → AreThose Is (take (i + 1) hs) ys
chosen_over Is hs ys i x there is a other =
    subst (λ (us : List Header). AreThose Is us ys) (more_is hs i x there is) (passed_over Is (take i hs) ys x a other)

pub chosen_more : (Is : Header → Type 0) (hs ys : List Header) (i : ℕ) (x : Header) → AllPairs HasLowerId hs → i < length hs → x ≡ get_or hs i x
    → AreThose Is (take i hs) ys → Is x → AreThose Is (take (i + 1) hs) (ys ++ x ∷ [])
chosen_more Is hs ys i x rising there is a this =
    subst (λ (us : List Header). AreThose Is us (ys ++ x ∷ [])) (more_is hs i x there is) (taken Is (take i hs) ys x (lower_before hs i x rising there is) a this)
