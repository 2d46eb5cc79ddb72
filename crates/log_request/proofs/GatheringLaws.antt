-- A request that is gathered byte by byte.
use Rattle.std.proofs.Common.{◌≡◌, ◌≤◌, ◌<◌, ◌+◌, ℕ, Bool, true, false, List, ◌++◌, length, take, sym, ap, ◌∙◌, arith, inl, inr, nat_eq}
use Rattle.std.specs.Prelude.{codes, if◌then◌else◌}
use Rattle.std.proofs.Math.Dec.{lit≤}
use Rattle.std.specs.Cmp.Lexicographic.{pointwise}
use Rattle.std.proofs.lemmas.Bool.{cases_lt}
use Rattle.std.proofs.lemmas.List.{length-append, length-take-le, take-append-le, take-take, take_all}
use Rattle.log_request.specs.Gathering.{first_request, names_chain, request_len}

-- what is not longer than a request is its first request
pub first_of_short : (text : List ℕ) → length text ≤ request_len text → first_request text ≡ text
first_of_short text short = take_all (request_len text) text short

len_by : (b : Bool) → 12 ≤ (if b then 44 else 12)
len_by true = lit≤ tt
len_by false = lit≤ tt

-- each request has 12 bytes at least
pub twelve_at_least : (text : List ℕ) → 12 ≤ request_len text
twelve_at_least text = len_by (names_chain text)

-- the first four bytes say it
same_len : (text more : List ℕ) → take 4 more ≡ take 4 text → request_len more ≡ request_len text
same_len text more e = ap (λ (t : List ℕ). if pointwise nat_eq (codes "HSL2") t then 44 else 12) e

-- so what comes behind them does not
pub len_before : (text more : List ℕ) → 4 ≤ length text → request_len (text ++ more) ≡ request_len text
len_before text more long = same_len text (text ++ more) (take-append-le 4 text more long)

-- what comes behind a whole request changes nothing
pub whole_stays : (text more : List ℕ) → request_len text ≤ length text → first_request (text ++ more) ≡ first_request text
whole_stays text more whole =
    let twelve = twelve_at_least text in
    let same = len_before text more (omega arith) in
    ap (λ (n : ℕ). take n (text ++ more)) same ∙ take-append-le (request_len text) text more whole

-- the first request of a text is its own
first_again : (text : List ℕ) → request_len text ≤ length text → request_len (first_request text) ≡ request_len text
first_again text whole =
    let twelve = twelve_at_least text in
    same_len text (first_request text) (take-take 4 (request_len text) text (omega arith))

-- a text is gathered as its first request is
pub gathered : (text more : List ℕ) → first_request (first_request text ++ more) ≡ first_request (text ++ more)
gathered text more =
    elim (cases_lt (length text) (request_len text)) [
      | inl short ↦ ap (λ (t : List ℕ). first_request (t ++ more)) (first_of_short text (omega arith))
      | inr whole ↦
          let again = first_again text whole in
          let size : length (first_request text) ≡ request_len text = length-take-le (request_len text) text whole in
          let front = whole_stays (first_request text) more (omega arith) in
          let kept = first_of_short (first_request text) (omega arith) in
          front ∙ kept ∙ sym (whole_stays text more whole)
    ]

-- where the request is not whole, a byte more is one of it
pub one_more : (text more : List ℕ) → length text < request_len text → length more ≡ 1 → first_request (text ++ more) ≡ text ++ more
one_more text more short one =
    let both : length (text ++ more) ≡ length text + 1 = omega (arith, length-append text more, one) in
    let twelve = twelve_at_least (text ++ more) in
    elim (cases_lt (length text) 4) [
      | inl few ↦ first_of_short (text ++ more) (omega arith)
      | inr four ↦ let same = len_before text more four in first_of_short (text ++ more) (omega arith)
    ]

most_by : (b : Bool) → (if b then 44 else 12) ≤ 44
most_by true = lit≤ tt
most_by false = lit≤ tt

-- no request is longer
pub at_most : (text : List ℕ) → request_len text ≤ 44
at_most text = most_by (names_chain text)
