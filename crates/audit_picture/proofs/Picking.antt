-- Choosing some headers of a list, one after the other.
use Rattle.std.proofs.Common.{◌≡◌, ◌<◌, ℕ, ◌+◌, List, [], ◌∷◌, ◌++◌, length, get_or, take, sym, ◌∙◌, ap, subst, arith}
use Rattle.std.specs.List.{All, AllPairs, Contains}
use Rattle.std.proofs.lemmas.List.{get_or_default, get_or-take, length-take-le, take_more}
use Rattle.std.proofs.lemmas.List.Elements.{All-push, Contains-append_left, Contains-push}
use Rattle.std.proofs.lemmas.List.Quantifiers.{all_pairs_push}
use Rattle.blocks.specs.Headers.{Header, HasLowerId}
use Rattle.audit_picture.specs.Choices.{AreSome}

more_is : (hs : List Header) (i : ℕ) (x : Header) → i < length hs → x ≡ get_or hs i x → take i hs ++ x ∷ [] ≡ take (i + 1) hs
more_is hs i x there is = ap (λ (h : Header). take i hs ++ h ∷ []) is ∙ sym (take_more hs i x there)

lower_before : (hs : List Header) (i : ℕ) (x : Header) → AllPairs HasLowerId hs → i < length hs → x ≡ get_or hs i x → (y : Header) → Contains (take i hs) y → HasLowerId y x
lower_before hs i x rising there is y c =
    let len : length (take i hs) ≡ i = length-take-le i hs (omega arith) in
    let in_take = c.1 in
    let small : c.0 < i = omega arith in
    let at : get_or hs c.0 x ≡ y = sym (get_or-take i hs c.0 x small) ∙ get_or_default (take i hs) c.0 x y in_take ∙ c.2 in
    subst (λ (h : Header). HasLowerId h x) at (subst (λ (h : Header). HasLowerId (get_or hs c.0 x) h) (sym is) (rising c.0 i x small there))

known_more : (us ys : List Header) (x : Header) → All (Contains us) ys → All (Contains (us ++ x ∷ [])) ys
known_more us ys x known k d l = Contains-append_left us (x ∷ []) (get_or ys k d) (known k d l)

pub some_over : (Is : Header → Type 0) (hs ys : List Header) (i : ℕ) (x : Header) → i < length hs → x ≡ get_or hs i x
    → AreSome Is (take i hs) ys → AreSome Is (take (i + 1) hs) ys
some_over Is hs ys i x there is a = record {
  once = a.once;
  each = a.each;
  known = subst (λ (us : List Header). All (Contains us) ys) (more_is hs i x there is) (known_more (take i hs) ys x a.known);
}

pub some_more : (Is : Header → Type 0) (hs ys : List Header) (i : ℕ) (x : Header) → AllPairs HasLowerId hs → i < length hs → x ≡ get_or hs i x
    → AreSome Is (take i hs) ys → Is x → AreSome Is (take (i + 1) hs) (ys ++ x ∷ [])
some_more Is hs ys i x rising there is a this =
    let known : All (Contains (take i hs ++ x ∷ [])) (ys ++ x ∷ []) =
    All-push (Contains (take i hs ++ x ∷ [])) ys x (known_more (take i hs) ys x a.known) (Contains-push (take i hs) x) in
    record {
      once = all_pairs_push HasLowerId ys x a.once (λ k d l. lower_before hs i x rising there is (get_or ys k d) (a.known k d l));
      each = All-push Is ys x a.each this;
      known = subst (λ (us : List Header). All (Contains us) (ys ++ x ∷ [])) (more_is hs i x there is) known;
    }
