-- What a feed gave.
use Rattle.std.proofs.Common.{◌≡◌, ℕ, suc, ◌+◌, ◌<◌, ◌≤◌, List, [], ◌∷◌, ◌++◌, Option, Some, None, length, take, drop, refl, sym, ap, subst, ◌∙◌, arith, append_assoc}
use Rattle.std.proofs.lemmas.List.{append-nil, length-append, take_at, take-append-le, take-append-drop, length-take, drop_at, drop_all}
use borrow.Rule.Slice.PartMut.{put_mid, post_of}
use Rattle.base_streams.specs.Streams.{Read}
use Rattle.std.specs.Prelude.{IfSome}
use Rattle.log_format.specs.Requests.{IsRequest, request_text}
use Rattle.log_format.specs.declared.request.FrameRequest.{FrameRequest}
use Rattle.std.specs.Io.KnownBytes.{Keeps}
use Rattle.log_server.specs.Serving.{GaveBytes, HasNoRequest, IsRequestOf, TookFirst, TookRequest}

take-append-add : (xs ys : List ℕ) (n : ℕ) → take (length xs + n) (xs ++ ys) ≡ xs ++ take n ys
take-append-add [] ys n = let none : 0 + n ≡ n = omega arith in ap (λ (m : ℕ). take m ys) none
take-append-add (x ∷ xs) ys n =
    let more : suc (length xs) + n ≡ suc (length xs + n) = omega arith in
    ap (λ (m : ℕ). take m (x ∷ (xs ++ ys))) more ∙ ap (λ (l : List ℕ). x ∷ l) (take-append-add xs ys n)

pub take_filled : (a n k : ℕ) (xs ys : List ℕ) → a ≤ length xs → n ≤ length ys → take (a + n) (put_mid a k xs ys) ≡ take a xs ++ take n ys
take_filled a n k xs ys le fits =
    let size : length (take a xs) ≡ a = omega (arith, length-take a xs) in
    ap (λ (m : ℕ). take (m + n) (put_mid a k xs ys)) (sym size)
    ∙ take-append-add (take a xs) (ys ++ post_of a k xs) n
    ∙ ap (λ (t : List ℕ). take a xs ++ t) (take-append-le n ys (post_of a k xs) fits)

pub gave_nothing : (before : Option (List ℕ)) → GaveBytes before before []
gave_nothing None = tt
gave_nothing (Some rest) = (rest, refl, refl)

pub gave_more : (before mid after : Option (List ℕ)) (first filled both : List ℕ) (n : ℕ) → both ≡ first ++ take n filled → GaveBytes before mid first → Read mid after n filled → GaveBytes before after both
gave_more None mid after first filled both n is a b = tt
gave_more (Some rest) mid after first filled both n is a b =
    let c : Read (Some a.0) after n filled = subst (λ (m : Option (List ℕ)). Read m after n filled) a.1 b in
    let split : a.0 ≡ take n filled ++ c.0 = sym (take-append-drop n a.0) ∙ ap (λ (t : List ℕ). t ++ drop n a.0) (sym c.2.bytes) ∙ ap (λ (t : List ℕ). take n filled ++ t) (sym c.2.left_behind) in
    (c.0, c.1, a.2 ∙ ap (λ (t : List ℕ). first ++ t) split ∙ sym (append_assoc first (take n filled) c.0) ∙ ap (λ (t : List ℕ). t ++ c.0) (sym is))

-- ---- the end, and a failure

abbrev IsAll : Option (List ℕ) → Option (List ℕ) → List ℕ → Type 0
IsAll before after text = IfSome before (λ rest. (rest ≡ text) × (after ≡ Some []))

pub gave_last : (before mid after : Option (List ℕ)) (first filled text : List ℕ) (n : ℕ) → text ≡ first → GaveBytes before mid first → Read mid after n filled → n ≡ 0 → 0 < length filled → IsAll before after text
gave_last None mid after first filled text n is a b none some = tt
gave_last (Some rest) mid after first filled text n is a b none some =
    let c : Read (Some a.0) after n filled = subst (λ (m : Option (List ℕ)). Read m after n filled) a.1 b in
    let end = c.2.at_end none some in
    let left : c.0 ≡ [] = c.2.left_behind ∙ ap (λ (t : List ℕ). drop n t) end ∙ drop_all n [] (omega arith) in
    (a.2 ∙ ap (λ (t : List ℕ). first ++ t) end ∙ append-nil first ∙ sym is, c.1 ∙ ap (λ (t : List ℕ). Some t) left)

kept_some : (left : List ℕ) (after : Option (List ℕ)) → Keeps (Some left) after → after ≡ Some left
kept_some left None kept = absurd kept
kept_some left (Some new) kept = ap (λ (t : List ℕ). Some t) kept

pub took_first : (before mid after : Option (List ℕ)) (first : List ℕ) (most : ℕ) → length first < most → GaveBytes before mid first → Keeps mid after → TookFirst before after most
took_first None mid after first most short a kept = tt
took_first (Some rest) mid after first most short a kept = (
  length first,
  short,
  kept_some a.0 after (subst (λ (m : Option (List ℕ)). Keeps m after) a.1 kept)
      ∙ ap (λ (t : List ℕ). Some t) (sym (drop_at first a.0 (length first) refl) ∙ ap (λ (t : List ℕ). drop (length first) t) (sym a.2)),
)

-- ---- a request

request_size : (r : FrameRequest) → length (request_text r) ≡ 12
unfolding request_text
request_size r = refl

pub request_of : (before after : Option (List ℕ)) (bytes : List ℕ) (r : FrameRequest) → GaveBytes before after bytes → IsRequest r → bytes ≡ request_text r → IsRequestOf before r
request_of None after bytes r gave is text = (is, tt)
request_of (Some rest) after bytes r gave is text = (is, (gave.0, gave.2 ∙ ap (λ (t : List ℕ). t ++ gave.0) text))

pub took_request : (before after : Option (List ℕ)) (bytes : List ℕ) → GaveBytes before after bytes → length bytes ≡ 12 → TookRequest before after
took_request None after bytes gave size = tt
took_request (Some rest) after bytes gave size = gave.1 ∙ ap (λ (t : List ℕ). Some t) (sym (drop_at bytes gave.0 12 size) ∙ ap (λ (t : List ℕ). drop 12 t) (sym gave.2))

pub took_all : (before after : Option (List ℕ)) (text : List ℕ) → length text < 12 → IsAll before after text → TookRequest before after
took_all None after text short is = tt
took_all (Some rest) after text short is = is.1 ∙ ap (λ (t : List ℕ). Some t) (sym (drop_all 12 rest (omega (arith, short, ap length is.0))))

pub short_text : (before after : Option (List ℕ)) (text : List ℕ) → length text < 12 → IsAll before after text → IfSome before HasNoRequest
short_text None after text short is = tt
short_text (Some rest) after text short is = λ r left request e. omega (arith, ap length (sym is.0 ∙ e), length-append (request_text r) left, request_size r)

pub no_request : (before after : Option (List ℕ)) (bytes : List ℕ) → GaveBytes before after bytes → length bytes ≡ 12 → ((r : FrameRequest) → IsRequest r → bytes ≡ request_text r → ⊥) → IfSome before HasNoRequest
no_request None after bytes gave size none = tt
no_request (Some rest) after bytes gave size none = λ r left request e.
    none r request (sym (take_at bytes gave.0 12 size) ∙ ap (λ (t : List ℕ). take 12 t) (sym gave.2 ∙ e) ∙ take_at (request_text r) left 12 (request_size r))
