-- Pieces of a text that a feed gives.
use Rattle.std.proofs.Common.{◌≡◌, ◌+◌, ◌-◌, ◌<◌, ◌≤◌, ◌^◌, ℕ, List, [], ◌++◌, Option, Some, None, IfSome, length, take, drop, refl, sym, ap, ◌∙◌, subst, inl, inr, append_assoc, arith}
use Rattle.std.proofs.lemmas.List.{append-nil, length-append, length-take, take-append-drop}
use Rattle.std.specs.Io.KnownBytes.{Keeps}
use Rattle.base_streams.specs.Counting.{one_more}
use Rattle.base_streams.specs.Streams.{Read}
use Rattle.replica_requests.specs.Intakes.{HeldLine, IsTakenIn, held}
use Rattle.replica_requests.specs.LineReading.{AreOfText, IsWhatWasRead}
use Rattle.replica_requests.specs.declared.reading.TheConstants.{MOST_LINES}
use Rattle.replica_requests.specs.declared.request_line.LineRequest.{LineRequest}
use Rattle.replica_requests.proofs.Taking.{ends_early, ends_full, none_taken}

-- after so many reads, each of which gave something: what was given is taken in, and the feed has the rest
pub record HasGiven (text : List ℕ) (now : Option (List ℕ)) (reads : ℕ) (requests : List LineRequest) (line : HeldLine) : Type 0 where
  pub given : List ℕ
  pub left : List ℕ
  pub left_is : now ≡ Some left
  pub whole : text ≡ given ++ left
  pub taken : IsTakenIn given requests line
  pub count : reads ≤ length given

-- .. of a feed that tells
abbrev pub IsReading : Option (List ℕ) → Option (List ℕ) → ℕ → List LineRequest → HeldLine → Type 0
IsReading before now reads requests line = IfSome before (λ text. HasGiven text now reads requests line)

-- what is to be shown of the requests
abbrev pub AreRead : Option (List ℕ) → Option (List ℕ) → ℕ → ℕ → List LineRequest → Type 0
AreRead before left failures failures' requests =
    IfSome before (λ text. length text < 2 ^ 64 - 1 → IsWhatWasRead text left failures failures' requests)

pub begins : (before : Option (List ℕ)) → IsReading before before 0 [] (held [])
begins None = tt
begins (Some text) = record { given = []; left = text; left_is = refl; whole = refl; taken = none_taken; count = omega arith }

pub goes_on : (before now after : Option (List ℕ)) (reads n : ℕ) (filled piece : List ℕ) (requests requests' : List LineRequest) (line line' : HeldLine)
    → IsReading before now reads requests line → Read now after n filled → 0 < n → piece ≡ take n filled
    → ((text : List ℕ) → IsTakenIn text requests line → IsTakenIn (text ++ piece) requests' line')
    → IsReading before after (reads + 1) requests' line'
goes_on None now after reads n filled piece requests requests' line line' reading read some is takes = tt
goes_on (Some text) now after reads n filled piece requests requests' line line' reading read some is takes =
    let told : Read (Some reading.left) after n filled = subst (λ (o : Option (List ℕ)). Read o after n filled) reading.left_is read in
    let (left, left_is, gave) = told in
    let same = is ∙ gave.bytes in
    record {
      given = reading.given ++ piece;
      left = left;
      left_is = left_is;
      whole = reading.whole ∙ ap (λ (t : List ℕ). reading.given ++ t) (sym (take-append-drop n reading.left)) ∙ sym (append_assoc reading.given (take n reading.left) (drop n reading.left))
          ∙ ap (λ (t : List ℕ). (reading.given ++ t) ++ drop n reading.left) (sym same) ∙ ap (λ (t : List ℕ). (reading.given ++ piece) ++ t) (sym gave.left_behind);
      taken = takes reading.given reading.taken;
      count =
          let many : length piece ≡ n = ap (λ (t : List ℕ). length t) same ∙ (let few = gave.available in omega (arith, length-take n reading.left)) in
          omega (arith, many, reading.count, some, length-append reading.given piece);
    }

-- the feed ends
pub at_end : (before now after : Option (List ℕ)) (reads n failures failures' : ℕ) (filled : List ℕ) (requests requests' : List LineRequest) (line : HeldLine)
    → IsReading before now reads requests line → Read now after n filled → n ≡ 0 → 0 < length filled → failures' ≡ failures
    → ((text : List ℕ) → IsTakenIn text requests line → AreOfText text requests')
    → AreRead before after failures failures' requests'
at_end None now after reads n failures failures' filled requests requests' line reading read none room kept finished = tt
at_end (Some text) now after reads n failures failures' filled requests requests' line reading read none room kept finished =
    let told : Read (Some reading.left) after n filled = subst (λ (o : Option (List ℕ)). Read o after n filled) reading.left_is read in
    let (left, left_is, gave) = told in
    let all = reading.whole ∙ ap (λ (t : List ℕ). reading.given ++ t) (gave.at_end none room) ∙ append-nil reading.given in
    λ _. inl (kept, subst (λ (t : List ℕ). AreOfText t requests') (sym all) (finished reading.given reading.taken))

still_left : (left : List ℕ) (after : Option (List ℕ)) → Keeps (Some left) after → after ≡ Some left
still_left left None keeps = absurd keeps
still_left left (Some rest) keeps = ap (λ (t : List ℕ). Some t) keeps

-- a read fails
pub at_failure : (before now after : Option (List ℕ)) (reads failures failures' : ℕ) (requests : List LineRequest) (line : HeldLine)
    → IsReading before now reads requests line → Keeps now after → length requests < MOST_LINES → failures' ≡ one_more failures
    → AreRead before after failures failures' requests
at_failure None now after reads failures failures' requests line reading keeps fewer risen = tt
at_failure (Some text) now after reads failures failures' requests line reading keeps fewer risen =
    let told : Keeps (Some reading.left) after = subst (λ (o : Option (List ℕ)). Keeps o after) reading.left_is keeps in
    λ _. inr (risen, (reading.left, still_left reading.left after told, ends_early text reading.given reading.left requests line reading.taken fewer reading.whole))

-- there are as many lines as are read
pub at_most : (before now : Option (List ℕ)) (reads failures failures' : ℕ) (requests : List LineRequest) (line : HeldLine)
    → IsReading before now reads requests line → length requests ≡ MOST_LINES → failures' ≡ failures
    → AreRead before now failures failures' requests
at_most None now reads failures failures' requests line reading full kept = tt
at_most (Some text) now reads failures failures' requests line reading full kept =
    λ _. inl (kept, ends_full text reading.given reading.left requests line reading.taken full reading.whole)
