-- What a feed asks.
use Rattle.std.proofs.Common.{◌≡◌, ◌≤◌, ◌<◌, ◌++◌, ◌∙◌, ℕ, Bool, true, false, List, Option, Some, None, length, take, drop, refl, sym, ap, subst, arith, inl, inr}
use Rattle.std.specs.Prelude.{◌≢◌, ◌↔◌, IfSome, IsTrue, OnErr, Result, Ok, Err}
use Rattle.std.proofs.lemmas.Bool.{cases_lt, false≢true}
use Rattle.std.proofs.lemmas.List.{drop_all, drop_at, take_all, take-append-drop}
use Rattle.base_streams.specs.Streams.{Read}
use Rattle.log_request.specs.ChainRequests.{IsAskedIn}
use Rattle.log_request.specs.Gathering.{first_request, request_len}
use Rattle.log_request.specs.declared.asking.Asked.{Asked}
use Rattle.log_request.proofs.AskedLaws.{asked_first}
use Rattle.log_request.proofs.GatheringLaws.{first_of_short, len_before, one_more, twelve_at_least, whole_stays}
use Rattle.log_server.specs.Serving.{GaveBytes}
use Rattle.log_server.specs.Replies.{AsksNothing, Gathered, IsAskedOf, TookAsked}
use Rattle.log_server.proofs.Requests.{gave_last}

-- a feed gave a request that is whole
pub gathered_whole : (before after : Option (List ℕ)) (request : List ℕ) → GaveBytes before after request → length request ≡ request_len request → Gathered before after request
gathered_whole None after request gave whole = tt
gathered_whole (Some rest) after request gave whole =
    let twelve = twelve_at_least request in
    let same : request_len rest ≡ length request = ap (λ (t : List ℕ). request_len t) gave.2 ∙ len_before request gave.0 (omega arith) ∙ sym whole in
    let first : first_request rest ≡ request =
    ap (λ (t : List ℕ). first_request t) gave.2 ∙ whole_stays request gave.0 (omega arith) ∙ first_of_short request (omega arith) in
    let left : drop (request_len rest) rest ≡ gave.0 = ap (λ (n : ℕ). drop n rest) same ∙ ap (λ (t : List ℕ). drop (length request) t) gave.2 ∙ drop_at request gave.0 (length request) refl in
    (sym first, gave.1 ∙ ap (λ (t : List ℕ). Some t) (sym left))

-- it ended before
pub gathered_end : (before mid after : Option (List ℕ)) (request filled : List ℕ) (n : ℕ) → length request ≤ request_len request → GaveBytes before mid request → Read mid after n filled → n ≡ 0 → 0 < length filled → Gathered before after request
gathered_end None mid after request filled n short gave read none some = tt
gathered_end (Some rest) mid after request filled n short gave read none some =
    let all = gave_last (Some rest) mid after request filled request n refl gave read none some in
    let fits : length rest ≤ request_len rest = subst (λ (t : List ℕ). length t ≤ request_len t) (sym all.0) short in
    (sym (first_of_short rest fits ∙ all.0), all.1 ∙ ap (λ (t : List ℕ). Some t) (sym (drop_all (request_len rest) rest fits)))

pub took_asked : (before after : Option (List ℕ)) (request : List ℕ) → Gathered before after request → TookAsked before after
took_asked None after request is = tt
took_asked (Some rest) after request is = is.1

-- what its first request asks it asks
pub asked_of : (chain : List ℕ) (before after : Option (List ℕ)) (request : List ℕ) (asked : Asked) → Gathered before after request → IsAskedIn chain request asked → IsAskedOf chain before asked
asked_of chain None after request asked is asks = tt
asked_of chain (Some rest) after request asked is asks =
    (request, drop (request_len rest) rest, asks, sym (take-append-drop (request_len rest) rest) ∙ ap (λ (t : List ℕ). t ++ drop (request_len rest) rest) (sym is.0))

-- .. and nothing where that asks nothing
pub asks_nothing : (chain : List ℕ) (before after : Option (List ℕ)) (request : List ℕ) → length chain ≡ 32 → Gathered before after request → ((asked : Asked) → IsAskedIn chain request asked → ⊥) → IfSome before (AsksNothing chain)
asks_nothing chain None after request long is none = tt
asks_nothing chain (Some rest) after request long is none = λ asked bytes left asks e.
    let first : request ≡ bytes = is.0 ∙ ap (λ (t : List ℕ). first_request t) e ∙ asked_first chain bytes left asked long asks in
    none asked (subst (λ (t : List ℕ). IsAskedIn chain t asked) (sym first) asks)

-- a request that is not whole is shorter
pub not_whole : (b : Bool) (request : List ℕ) → b ≡ false → (IsTrue b ↔ (length request ≡ request_len request)) → length request ≤ request_len request → length request < request_len request
not_whole b request e exact within =
    elim (cases_lt (length request) (request_len request)) [
      | inl less ↦ less
      | inr past ↦ absurd (false≢true (sym e ∙ exact.1 (omega arith)))
    ]

pub on_err : {A E : Type 0} (r : Result A E) (P : Type 0) → P → OnErr r P
on_err (Ok x) P p = tt
on_err (Err e) P p = p

-- one byte more came of it
pub byte_more : (request piece : List ℕ) (n : ℕ) → length request < request_len request → length piece ≡ 1 → n ≤ length piece → n ≢ 0 → first_request (request ++ piece) ≡ request ++ take n piece
byte_more request piece n short one within some =
    let all : take n piece ≡ piece = take_all n piece (omega (arith, some, one)) in
    one_more request piece short one ∙ ap (λ (t : List ℕ). request ++ t) (sym all)
