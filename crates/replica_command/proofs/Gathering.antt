-- What workers did, taken together.
use Rattle.std.proofs.Common.{◌≡◌, ◌<◌, ◌+◌, ℕ, zero, suc, List, [], ◌∷◌, ◌++◌, Option, Some, Result, Ok, sym, subst, ◌∙◌, ap, length, get_or, drop, take, add-one, arith, refl}
use Rattle.std.specs.Prelude.{IfOk, map}
use Rattle.std.specs.List.{All, AllZip, Contains, slice_get}
use Rattle.std.specs.List.Sorted.{IsPermutation}
use Rattle.std.proofs.lemmas.List.{append-nil, map-append}
use Rattle.std.proofs.lemmas.List.Elements.{All-cons, All-contains, All-head, All-map, All-nil, All-tail, Contains-append_left, Contains-append_right}
use Rattle.std.proofs.lemmas.List.Sorted.{Contains-permutation}
use Rattle.std.proofs.lemmas.Option.{same_Some, slice_get-get_or}
use Rattle.std.proofs.lemmas.Result.{IfOk-at_ok}
use Rattle.blocks.specs.Replica.{Stored}
use Rattle.stable_log.specs.declared.disk.Disk.{Ghosts}
use Rattle.base_streams.specs.Streams.{Wrote}
use Rattle.base_streams.proofs.Writing.{wrote_both}
use Rattle.vote_desk.specs.Receipts.{receipts_of}
use Rattle.vote_desk.specs.declared.reply.Receipt.{Receipt}
use Rattle.replica_requests.specs.declared.outcome_line.LineOutcome.{LineOutcome}
use Rattle.replica_requests.specs.declared.request_line.LineRequest.{LineRequest}
use Rattle.replica_command.specs.Dealing.{AreWorked, IsAnswered, IsRequestIn}
use Rattle.replica_command.specs.LineReceipts.{HasLineReceipt}
use Rattle.replica_command.specs.StayAnswers.{IsStayAnswer}
use Rattle.replica_command.specs.StayText.{IsPrinted, IsStayPrinted, answers, closed_line}
use Rattle.replica_command.specs.declared.staying.Ending.{Ending}
use Rattle.replica_command.specs.declared.worker.Answered.{Answered}
use Rattle.replica_command.specs.declared.worker.Asked.{Asked}
use Rattle.replica_command.proofs.LineReceipts.{has_line_receipt_among_more}

-- ---- lists

-- what was yielded of a list of which nothing is left
pub all_yielded : {X : Type 0} (ys rest xs : List X) → rest ≡ [] → ys ++ rest ≡ xs → ys ≡ xs
all_yielded {X} ys rest xs ended so_far = sym (append-nil ys) ∙ ap (λ (zs : List X). ys ++ zs) (sym ended) ∙ so_far

-- two lists that show the same still do after one element more
pub map_push_both : {A B C : Type 0} (f : A → C) (h : B → C) (xs : List A) (ys : List B) (x : A) (y : B) → map f xs ≡ map h ys → f x ≡ h y
    → map f (xs ++ x ∷ []) ≡ map h (ys ++ y ∷ [])
map_push_both {C = C} f h xs ys x y same one =
    map-append f xs (x ∷ []) ∙ ap (λ (cs : List C). cs ++ f x ∷ []) same ∙ ap (λ (e : C). map h ys ++ e ∷ []) one ∙ sym (map-append h ys (y ∷ []))

-- the element at which the rest of a list begins
pub drop_at : {X : Type 0} (xs : List X) (n : ℕ) (x : X) (rest : List X) → drop n xs ≡ x ∷ rest → (slice_get xs n ≡ Some x) × (drop (n + 1) xs ≡ rest)
drop_at [] zero x rest e = cc
drop_at [] (suc n) x rest e = cc
drop_at (y ∷ xs) zero x rest e = (cc, cc)
drop_at (y ∷ xs) (suc n) x rest e =
    let h = drop_at xs n x rest e in
    (h.0, subst (λ (m : ℕ). drop m (y ∷ xs) ≡ rest) (sym (add-one (suc n))) (subst (λ (m : ℕ). drop m xs ≡ rest) (add-one n) h.1))

-- one request more was dealt, under its number
pub dealt_one_more : (requests : List LineRequest) (count count' number : ℕ) (x : LineRequest) (rest rest' : List LineRequest) → drop count requests ≡ rest → rest ≡ x ∷ rest' → number ≡ count → count' ≡ count + 1
    → (slice_get requests number ≡ Some x) × (drop count' requests ≡ rest')
dealt_one_more requests count count' number x rest rest' here is_rest is_number is_count =
    let at = drop_at requests count x rest' (here ∙ is_rest) in
    (subst (λ (n : ℕ). slice_get requests n ≡ Some x) (sym is_number) at.0, subst (λ (n : ℕ). drop n requests ≡ rest') (sym is_count) at.1)

-- what each of the calls gives, where none gives an error
pub gathered : {J D E : Type 0} (Gives : J → D → Type 0) (js : List J) (rs : List (Result D E)) (ds : List D) → length rs ≡ length js
    → ((i : ℕ) (j : J) (r : Result D E) → i < length js → IfOk (get_or rs i r) (Gives (get_or js i j)))
    → AllZip (λ r d. r ≡ Ok d) rs ds → AllZip Gives js ds
gathered Gives [] [] [] same each oks = tt
gathered Gives [] [] (d ∷ ds) same each oks = absurd oks
gathered Gives [] (r ∷ rs) ds same each oks = absurd (omega arith)
gathered Gives (j ∷ js) [] ds same each oks = absurd (omega arith)
gathered Gives (j ∷ js) (r ∷ rs) [] same each oks = absurd oks
gathered Gives (j ∷ js) (r ∷ rs) (d ∷ ds) same each oks = (
  IfOk-at_ok (Gives j) oks.0 (each 0 j r (omega arith)),
  gathered Gives js rs ds (omega arith) (λ i j' r' lt. each (suc i) j' r' (omega arith)) oks.1,
)

-- two lists of one length, where each element of the second has its counterpart in the first
zip_from_get : {A B : Type 0} (R : A → B → Type 0) (xs : List A) (ys : List B) → length ys ≡ length xs
    → ((k : ℕ) (y : B) → slice_get ys k ≡ Some y → (x : A) × (slice_get xs k ≡ Some x) × R x y) → AllZip R xs ys
zip_from_get R [] [] same each = tt
zip_from_get R [] (y ∷ ys) same each = absurd (omega arith)
zip_from_get R (x ∷ xs) [] same each = absurd (omega arith)
zip_from_get R (x ∷ xs) (y ∷ ys) same each =
    let first = each 0 y refl in (
      subst (λ a. R a y) (sym (same_Some x first.0 first.1)) first.2,
      zip_from_get R xs ys (omega arith) (λ k b e. each (suc k) b e),
    )

-- ---- a stay

module _ {D : Type 0} (disk : Ghosts D) (committee : List ℕ) (replica : ℕ) (opening : List Stored) (requests : List LineRequest) (receipts : List Receipt) where
  -- what was asked under its number may have come so, and the receipt of a vote is among the receipts
  IsGood : Answered → Type 0
  IsGood a = ((r : LineRequest) × (slice_get requests a.number ≡ Some r) × IsStayAnswer disk committee replica opening r a.outcome) × HasLineReceipt receipts a.outcome

  -- of one worker
  good_of_one : (asked : List Asked) (answered : List Answered) (own : List Receipt) → ((r : Receipt) → Contains own r → Contains receipts r)
      → All (IsRequestIn requests) asked → AllZip (IsAnswered disk committee replica opening) asked answered → All (λ (a : Answered). HasLineReceipt own a.outcome) answered
      → All IsGood answered
  unfolding IsGood
  good_of_one [] [] own among dealt zip backed = All-nil IsGood
  good_of_one [] (a ∷ answered) own among dealt zip backed = absurd zip
  good_of_one (q ∷ asked) [] own among dealt zip backed = absurd zip
  good_of_one (q ∷ asked) (a ∷ answered) own among dealt zip backed =
      let here = zip.0 in
      let asked_here : slice_get requests q.number ≡ Some q.request = All-head (IsRequestIn requests) q asked dealt in
      All-cons IsGood a answered (
        (
          q.request,
          subst (λ (n : ℕ). slice_get requests n ≡ Some q.request) (sym here.0) asked_here,
          here.1,
        ),
        has_line_receipt_among_more own receipts a.outcome among (All-head (λ (x : Answered). HasLineReceipt own x.outcome) a answered backed),
      )
      (good_of_one asked answered own among (All-tail (IsRequestIn requests) q asked dealt) zip.1 (All-tail (λ (x : Answered). HasLineReceipt own x.outcome) a answered backed))

  module _ {W X : Type 0} (asked_of : W → List Asked) (answered_of : X → List Answered) (receipts_in : X → List Receipt) where
    -- of all workers
    good_of_all : (work : List W) (done : List X) → ((r : Receipt) → Contains (receipts_of (map receipts_in done)) r → Contains receipts r)
        → All (λ (w : W). All (IsRequestIn requests) (asked_of w)) work
        → AllZip (λ (w : W) (d : X). AreWorked disk committee replica opening (asked_of w) (receipts_in d) (answered_of d)) work done
        → All (λ (d : X). All IsGood (answered_of d)) done
    good_of_all [] [] among dealt zip = All-nil (λ (d : X). All IsGood (answered_of d))
    good_of_all [] (d ∷ done) among dealt zip = absurd zip
    good_of_all (w ∷ work) [] among dealt zip = absurd zip
    good_of_all (w ∷ work) (d ∷ done) among dealt zip =
        let rest = receipts_of (map receipts_in done) in
        All-cons (λ (x : X). All IsGood (answered_of x)) d done
        (good_of_one (asked_of w) (answered_of d) (receipts_in d) (λ r h. among r (Contains-append_right rest (receipts_in d) r h))
        (All-head (λ (x : W). All (IsRequestIn requests) (asked_of x)) w work dealt) zip.0.each zip.0.backed)
        (good_of_all work done (λ r h. among r (Contains-append_left rest (receipts_in d) r h))
        (All-tail (λ (x : W). All (IsRequestIn requests) (asked_of x)) w work dealt) zip.1)

    -- what a stay printed, from what was dealt, done, printed and closed
    pub stay_printed : (before mid after : Option (List ℕ)) (work : List W) (done : List X) (count opened : ℕ) (steps : List Stored) (ending : Ending)
        → count ≡ length requests → opening ≡ take opened steps
        → All (λ (w : W). All (IsRequestIn requests) (asked_of w)) work
        → AllZip (λ (w : W) (d : X). AreWorked disk committee replica opening (asked_of w) (receipts_in d) (answered_of d)) work done
        → IsPrinted before mid (map answered_of done) count ending
        → IsPermutation (receipts_of (map receipts_in done)) receipts
        → Wrote mid after (closed_line (length steps))
        → IsStayPrinted disk before after committee replica opened steps requests receipts ending
    unfolding IsGood
    stay_printed before mid after work done count opened steps ending count_is begins dealt zip p same wrote =
        let good = good_of_all work done (λ r h. Contains-permutation (receipts_of (map receipts_in done)) receipts r same h) dealt zip in
        let all = All-map (λ (answered : List Answered). All IsGood answered) answered_of done good in
        let found = λ (k : ℕ) (o : LineOutcome) (e : slice_get p.outcomes k ≡ Some o).
        let at = p.found k o e in
        All-contains IsGood at.0 (record { number = k; outcome = o }) (All-contains (λ (answered : List Answered). All IsGood answered) (map answered_of done) at.0 all at.1) at.2 in
        record {
          outcomes = p.outcomes;
          each = subst (λ (list : List Stored). AllZip (IsStayAnswer disk committee replica list) requests p.outcomes) begins
              (zip_from_get (IsStayAnswer disk committee replica opening) requests p.outcomes (p.many ∙ count_is) (λ k o e. (found k o e).0));
          backed = λ k d lt. (found k (get_or p.outcomes k d) (slice_get-get_or p.outcomes k d lt)).1;
          ends = p.ends;
          wrote = wrote_both before mid after (answers p.outcomes) (closed_line (length steps)) p.wrote wrote;
        }
