-- Votes that rise, searched for one on a block.
use Rattle.std.proofs.Common.{◌≡◌, ◌⊎◌, ◌&&◌, Bool, true, false, inl, inr, ℕ, ◌+◌, ◌<◌, List, [], length, get_or, Result, Ok, Err, nat_eq, refl, sym, ◌∙◌, ap, subst, arith}
use Rattle.std.specs.Cmp.{IsTotalOrder}
use Rattle.std.specs.Cmp.Lexicographic.{slice_cmp}
use Rattle.std.specs.List.{AllPairs}
use Rattle.std.specs.List.Sorted.{IsBinarySearchResult, IsNonDecreasingBy, IsSearchInRange, IsSortedBy}
use Rattle.std.specs.Ordering.{nat_cmp, ordering_index, ordering_reverse, ordering_then, is_lt}
use Rattle.std.specs.Result.{is_ok}
use Rattle.std.specs.Str.{bytes_eq}
use Rattle.std.specs.declared.cmp.Ordering.{Ordering}
use Rattle.std.specs.declared.cmp.Ordering.TheVariants.{Less, Equal, Greater}
use Rattle.std.proofs.lemmas.Bool.{and_parts, cases_lt, eqb-true, false_from_ne_true}
use Rattle.std.proofs.lemmas.Cmp.{nat_cmp_total, nat_eq_equiv, nat_list_cmp_total, on_total, then_total, tied_itself}
use Rattle.std.proofs.lemmas.List.Folds.{list_any_at, list_any_none}
use Rattle.std.proofs.lemmas.List.Sorted.{searchable_from_sorted}
use Rattle.std.proofs.lemmas.Map.Lookups.{exact_bytes, exact_unsigned}
use Rattle.std.proofs.lemmas.Slice.Eq.{bytes_eq-Decides}
use Rattle.certificates.specs.declared.vote.SignedVote.{SignedVote}
use Rattle.certificates.specs.VoteOrder.{IsLowerVote}
use Rattle.certificates.proofs.VoteOrder.{both_equal}
use Rattle.audit_commits.specs.Commits.{has_vote, is_vote_on}

-- ---- ballots

-- a replica, and the view and the id that it votes for
abbrev pub Ballot : Type 0
Ballot = ℕ × ℕ × List ℕ

abbrev pub ballot_of : SignedVote → Ballot
ballot_of v = (v.replica, v.view, v.id)

abbrev pub ballot_cmp : Ballot → Ballot → Ordering
ballot_cmp x y = ordering_then (ordering_then (nat_cmp x.0 y.0) (nat_cmp x.1 y.1)) (slice_cmp nat_cmp x.2 y.2)

ballots_total : IsTotalOrder ballot_cmp
ballots_total =
    then_total (then_total (on_total (λ (x : Ballot). x.0) nat_cmp_total) (on_total (λ (x : Ballot). x.1) nat_cmp_total))
    (on_total (λ (x : Ballot). x.2) nat_list_cmp_total)

ballots_apart : (x y : Ballot) → ballot_cmp x y ≡ Equal → x ≡ y
ballots_apart x y e =
    let a = both_equal (ordering_then (nat_cmp x.0 y.0) (nat_cmp x.1 y.1)) (slice_cmp nat_cmp x.2 y.2) e in
    let b = both_equal (nat_cmp x.0 y.0) (nat_cmp x.1 y.1) a.0 in
    ap (λ (n : ℕ). (n, x.1, x.2)) (exact_unsigned x.0 y.0 b.0) ∙ ap (λ (n : ℕ). (y.0, n, x.2)) (exact_unsigned x.1 y.1 b.1) ∙ ap (λ (l : List ℕ). (y.0, y.1, l)) (exact_bytes x.2 y.2 a.1)

-- ---- votes rise by their ballots, too

not_behind : (a b c d : Ordering) → ordering_then a (ordering_then b (ordering_then c d)) ≡ Less → is_lt (ordering_reverse (ordering_then (ordering_then a b) c)) ≡ false
not_behind Less b c d e = refl
not_behind Greater b c d e = absurd cc
not_behind Equal Less c d e = refl
not_behind Equal Greater c d e = absurd cc
not_behind Equal Equal Less d e = refl
not_behind Equal Equal Equal d e = refl
not_behind Equal Equal Greater d e = absurd cc

ballots_rise : (v w : SignedVote) → IsLowerVote v w → is_lt (ballot_cmp (ballot_of w) (ballot_of v)) ≡ false
ballots_rise v w low =
    ap is_lt (ballots_total.antisymm (ballot_of w) (ballot_of v))
    ∙ not_behind (nat_cmp v.replica w.replica) (nat_cmp v.view w.view) (slice_cmp nat_cmp v.id w.id) (ordering_then (nat_cmp v.key w.key) (slice_cmp nat_cmp v.signature w.signature)) low

sorted_by_ballot : (vs : List SignedVote) → AllPairs IsLowerVote vs → IsSortedBy (λ v w. is_lt (ballot_cmp (ballot_of v) (ballot_of w))) vs
sorted_by_ballot vs rising k d low there = ballots_rise (get_or vs k d) (get_or vs (k + 1) d) (rising k (k + 1) d (omega arith) there)

searchable : (vs : List SignedVote) (x : Ballot) → AllPairs IsLowerVote vs → IsNonDecreasingBy (λ v. ordering_index (ballot_cmp (ballot_of v) x)) vs
searchable vs x rising = searchable_from_sorted ballots_total ballot_of vs x (sorted_by_ballot vs rising)

-- ---- a ballot for a block

both_true : (a b : Bool) → a ≡ true → b ≡ true → (a && b) ≡ true
both_true true b p q = q
both_true false b p q = p

is_ballot : (view : ℕ) (id : List ℕ) (r : ℕ) (v : SignedVote) → ballot_of v ≡ (r, view, id) → is_vote_on view id r v ≡ true
is_ballot view id r v same =
    subst (λ (x : Ballot). (nat_eq v.replica x.0 && (nat_eq v.view x.1 && bytes_eq v.id x.2)) ≡ true) same
    (both_true _ _ (nat_eq_equiv.refl v.replica) (both_true _ _ (nat_eq_equiv.refl v.view) ((bytes_eq-Decides v.id v.id).1 refl)))

ballot_is : (view : ℕ) (id : List ℕ) (r : ℕ) (v : SignedVote) → is_vote_on view id r v ≡ true → ballot_of v ≡ (r, view, id)
ballot_is view id r v t =
    let x = and_parts (nat_eq v.replica r) (nat_eq v.view view && bytes_eq v.id id) t in
    let y = and_parts (nat_eq v.view view) (bytes_eq v.id id) x.1 in
    ap (λ (n : ℕ). (n, v.view, v.id)) (eqb-true v.replica r x.0) ∙ ap (λ (n : ℕ). (r, n, v.id)) (eqb-true v.view view y.0)
    ∙ ap (λ (l : List ℕ). (r, view, l)) ((bytes_eq-Decides v.id id).0 y.1)

not_equal : (o : Ordering) → o ≡ Equal → (o ≡ Less) ⊎ (o ≡ Greater) → ⊥
not_equal Less e f = absurd cc
not_equal Greater e f = absurd cc
not_equal Equal e (inl f) = absurd cc
not_equal Equal e (inr f) = absurd cc

-- ---- what a search answers

abbrev pub Finds : List SignedVote → Ballot → Result ℕ ℕ → Type 0
Finds vs x res = IsBinarySearchResult (λ v. ballot_cmp (ballot_of v) x) vs res

found : (vs : List SignedVote) (view : ℕ) (id : List ℕ) (r k : ℕ) → k < length vs → Finds vs (r, view, id) (Ok k) → has_vote vs view id r ≡ true
found vs view id r k there ties =
    let d : SignedVote = record { replica = 0; view = 0; id = []; key = 0; signature = [] } in
    list_any_at (is_vote_on view id r) vs k d there (is_ballot view id r (get_or vs k d) (ballots_apart (ballot_of (get_or vs k d)) (r, view, id) (ties d)))

missing : (vs : List SignedVote) (view : ℕ) (id : List ℕ) (r p : ℕ) → AllPairs IsLowerVote vs → Finds vs (r, view, id) (Err p) → has_vote vs view id r ≡ false
missing vs view id r p rising parted =
    let parts = parted (searchable vs (r, view, id) rising) in
    list_any_none (is_vote_on view id r) vs (λ k d there. false_from_ne_true _ (λ t.
    let same = ballot_is view id r (get_or vs k d) t in
    let tie : ballot_cmp (ballot_of (get_or vs k d)) (r, view, id) ≡ Equal = ap (λ (x : Ballot). ballot_cmp x (r, view, id)) same ∙ tied_itself ballots_total (r, view, id) in
    not_equal _ tie (elim (cases_lt k p) [
      | inl before ↦ inl (parts.0 k d (omega arith) before)
      | inr behind ↦ inr (parts.1 k d behind there)
    ])))

pub finds_vote : (vs : List SignedVote) (view : ℕ) (id : List ℕ) (r : ℕ) (res : Result ℕ ℕ) → AllPairs IsLowerVote vs → IsSearchInRange res (length vs) → Finds vs (r, view, id) res → is_ok res ≡ has_vote vs view id r
finds_vote vs view id r (Ok k) rising there ties = sym (found vs view id r k there ties)
finds_vote vs view id r (Err p) rising there parted = sym (missing vs view id r p rising parted)
