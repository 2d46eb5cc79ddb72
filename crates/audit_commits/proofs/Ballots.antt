-- Who voted for what, in the order of views and ids.
use Rattle.std.proofs.Common.{◌≡◌, ◌↔◌, ◌&&◌, Bool, true, false, ℕ, ◌<◌, List, [], length, get_or, map, take, drop, nat_eq, refl, sym, ◌∙◌, ap, arith}
use Rattle.std.specs.Cmp.{IsTotalOrder}
use Rattle.std.specs.Cmp.Lexicographic.{slice_cmp}
use Rattle.std.specs.List.{Contains}
use Rattle.std.specs.Ordering.{is_le, is_lt, nat_cmp, ordering_then}
use Rattle.std.specs.Str.{bytes_eq}
use Rattle.std.specs.declared.cmp.Ordering.{Ordering}
use Rattle.std.proofs.lemmas.Bool.{and_parts, eqb-true}
use Rattle.std.proofs.lemmas.Cmp.{nat_cmp_total, nat_eq_equiv, nat_list_cmp_total, on_total, then_total, tied_itself}
use Rattle.std.proofs.lemmas.List.{get_or-map, get_or_default, length-map}
use Rattle.std.proofs.lemmas.List.Folds.{list_any-from_Any}
use Rattle.std.proofs.lemmas.List.Sorted.{searchable_from_sorted}
use Rattle.std.proofs.lemmas.Map.Lookups.{exact_bytes, exact_unsigned}
use Rattle.std.proofs.lemmas.Slice.Eq.{bytes_eq-Decides}
use Rattle.blocks.proofs.Members.{Contains-from_Has}
use Rattle.certificates.specs.declared.vote.SignedVote.{SignedVote}
use Rattle.certificates.proofs.VoteOrder.{both_equal}
use Rattle.audit_commits.specs.Casts.{AreCasts, CastsRise, cast_of, has_cast}
use Rattle.audit_commits.specs.Commits.{has_vote, is_vote_on}
use Rattle.audit_commits.specs.declared.by_ballot.Cast.{Cast}
use Rattle.audit_commits.proofs.Between.{Ends, RanksRise, tied_between_in}
use Rattle.audit_commits.proofs.Weights.{list_any-Has}

-- ---- their order

abbrev pub Key : Type 0
Key = ℕ × List ℕ

abbrev pub key_of : Cast → Key
key_of c = (c.view, c.id)

abbrev pub key_cmp : Key → Key → Ordering
key_cmp x y = ordering_then (nat_cmp x.0 y.0) (slice_cmp nat_cmp x.1 y.1)

pub keys_total : IsTotalOrder key_cmp
keys_total = then_total (on_total (λ (x : Key). x.0) nat_cmp_total) (on_total (λ (x : Key). x.1) nat_list_cmp_total)

-- how it stands to a view and an id
abbrev pub cast_rank : Key → Cast → Ordering
cast_rank x c = key_cmp (key_of c) x

pub casts_rise : (cs : List Cast) (x : Key) → CastsRise cs → RanksRise (cast_rank x) cs
casts_rise cs x rise = searchable_from_sorted keys_total key_of cs x rise

-- those between where the keys below this one end, and where those up to it do
pub casts_on_in : (cs ds es rest : List Cast) (view : ℕ) (id : List ℕ) (s n : ℕ) → ds ≡ cs → es ≡ cs → rest ≡ drop s es
    → Ends (λ c. is_lt (cast_rank (view, id) c)) ds s → Ends (λ c. is_le (cast_rank (view, id) c)) rest n
    → (c : Cast) → Contains (take n rest) c ↔ (Contains cs c × (c.view ≡ view) × (c.id ≡ id))
casts_on_in cs ds es rest view id s n same again behind first second c =
    let tied = tied_between_in (cast_rank (view, id)) cs ds es rest s n same again behind first second c in (
      λ there.
          (let t = tied.0 there in
          let b = both_equal (nat_cmp c.view view) (slice_cmp nat_cmp c.id id) t.1 in
          (t.0, exact_unsigned c.view view b.0, exact_bytes c.id id b.1)),
      λ (there, at, on).
          tied.1 (there, ap (λ (n : ℕ). key_cmp (n, c.id) (view, id)) at ∙ ap (λ (l : List ℕ). key_cmp (view, l) (view, id)) on ∙ tied_itself keys_total (view, id)),
    )

-- ---- who voted for a block

in_map : (vs : List SignedVote) (v : SignedVote) → Contains vs v → Contains (map cast_of vs) (cast_of v)
in_map vs v (k, there, is) = (k, omega (arith, length-map vs cast_of), get_or-map cast_of vs k v (cast_of v) there ∙ ap cast_of is)

from_map : (vs : List SignedVote) (c : Cast) → Contains (map cast_of vs) c → (v : SignedVote) × Contains vs v × (cast_of v ≡ c)
from_map vs c (k, there, is) =
    let d : SignedVote = record { replica = 0; view = 0; id = []; key = 0; signature = [] } in
    let inside : k < length vs = omega (arith, there, length-map vs cast_of) in
    (get_or vs k d, (k, inside, get_or_default vs k _ d inside), sym (get_or-map cast_of vs k d c inside) ∙ is)

both_true : (a b : Bool) → a ≡ true → b ≡ true → (a && b) ≡ true
both_true true b p q = q
both_true false b p q = p

same_answer : (a b : Bool) → (a ≡ true → b ≡ true) → (b ≡ true → a ≡ true) → a ≡ b
same_answer true b f g = sym (f refl)
same_answer false true f g = g refl
same_answer false false f g = refl

-- among the casts for a block, a replica's is one of its votes on the block
pub cast_is_vote : (votes : List SignedVote) (casts on : List Cast) (view : ℕ) (id : List ℕ) (r : ℕ) → AreCasts votes casts
    → ((c : Cast) → Contains on c ↔ (Contains casts c × (c.view ≡ view) × (c.id ≡ id)))
    → has_cast on r ≡ has_vote votes view id r
cast_is_vote votes casts on view id r are those =
    same_answer (has_cast on r) (has_vote votes view id r)
    (λ t.
    let c = list_any-Has (λ (c : Cast). nat_eq c.replica r) on t in
    let there = (those c.0).0 (Contains-from_Has on c.0 c.1) in
    let v = from_map votes c.0 ((are c.0).0 there.0) in
    let by : nat_eq v.0.replica r ≡ true = ap (λ (x : Cast). nat_eq x.replica r) v.2 ∙ c.2 in
    let at : nat_eq v.0.view view ≡ true = ap (λ (x : Cast). nat_eq x.view view) v.2 ∙ ap (λ (n : ℕ). nat_eq n view) there.1 ∙ nat_eq_equiv.refl view in
    let for : bytes_eq v.0.id id ≡ true = (bytes_eq-Decides v.0.id id).1 (ap (λ (x : Cast). x.id) v.2 ∙ there.2) in
    list_any-from_Any (is_vote_on view id r) votes (v.1.0, v.0, v.1.1, v.1.2, both_true _ _ by (both_true _ _ at for)))
    (λ t.
    let v = list_any-Has (is_vote_on view id r) votes t in
    let x = and_parts (nat_eq v.0.replica r) (nat_eq v.0.view view && bytes_eq v.0.id id) v.2 in
    let y = and_parts (nat_eq v.0.view view) (bytes_eq v.0.id id) x.1 in
    let in_casts = (are (cast_of v.0)).1 (in_map votes v.0 (Contains-from_Has votes v.0 v.1)) in
    let there = (those (cast_of v.0)).1 (in_casts, eqb-true v.0.view view y.0, (bytes_eq-Decides v.0.id id).0 y.1) in
    list_any-from_Any (λ (c : Cast). nat_eq c.replica r) on (there.0, cast_of v.0, there.1, there.2, x.0))
