-- Headers in the order of the parents that they name.
use Rattle.std.proofs.Common.{◌≡◌, ◌↔◌, ℕ, List, take, drop, sym, ◌∙◌, ap}
use Rattle.std.specs.Cmp.Lexicographic.{slice_cmp}
use Rattle.std.specs.List.{Any, Contains}
use Rattle.std.specs.Ordering.{is_le, is_lt, nat_cmp}
use Rattle.std.specs.declared.cmp.Ordering.{Ordering}
use Rattle.std.proofs.lemmas.Cmp.{nat_list_cmp_total, tied_itself}
use Rattle.std.proofs.lemmas.List.Sorted.{searchable_from_sorted}
use Rattle.std.proofs.lemmas.Map.Lookups.{exact_bytes}
use Rattle.blocks.specs.Headers.{Header, header_id}
use Rattle.audit_commits.specs.Successors.{HasNext, HasTwoNext, IsNext, ParentsRise}
use Rattle.audit_commits.proofs.Between.{Ends, RanksRise, tied_between_in}

-- how the parent that a header names stands to an id
abbrev pub rank : List ℕ → Header → Ordering
rank id h = slice_cmp nat_cmp h.parent id

pub ranks_rise : (hs : List Header) (id : List ℕ) → ParentsRise hs → RanksRise (rank id) hs
ranks_rise hs id rise = searchable_from_sorted nat_list_cmp_total (λ (h : Header). h.parent) hs id rise

-- those between where the ids below this one end, and where those up to it do
pub those_on_in : (hs ds es rest : List Header) (id : List ℕ) (s n : ℕ) → ds ≡ hs → es ≡ hs → rest ≡ drop s es → Ends (λ h. is_lt (rank id h)) ds s → Ends (λ h. is_le (rank id h)) rest n
    → (h : Header) → Contains (take n rest) h ↔ (Contains hs h × (h.parent ≡ id))
those_on_in hs ds es rest id s n same again behind first second h =
    let tied = tied_between_in (rank id) hs ds es rest s n same again behind first second h in (
      λ c. ((tied.0 c).0, exact_bytes h.parent id (tied.0 c).1),
      λ (there, on). tied.1 (there, ap (λ (x : List ℕ). slice_cmp nat_cmp x id) on ∙ tied_itself nat_list_cmp_total id),
    )

-- ---- successors among them

abbrev AreOn : List Header → List Header → List ℕ → Type 0
AreOn on hs id = (h : Header) → Contains on h ↔ (Contains hs h × (h.parent ≡ id))

-- one on b is found among those on b
pub any_on : (on hs : List Header) (id : List ℕ) (b : Header) (P : Header → Type 0) → AreOn on hs id → id ≡ header_id b → ((h : Header) → P h → IsNext b h) → Any P on ↔ Any P hs
any_on on hs id b P are is next = (
  λ (i, h, there, same, p). (let c = ((are h).0 (i, there, same)).0 in (c.0, h, c.1, c.2, p)),
  λ (i, h, there, same, p). (let c = (are h).1 ((i, there, same), (next h p).0.id ∙ sym is) in (c.0, h, c.1, c.2, p)),
)

-- the same headers have the same successors
pub two_next_of : (xs ys : List Header) (b : Header) → ((h : Header) → Contains xs h → Contains ys h) → HasTwoNext xs b → HasTwoNext ys b
unfolding HasTwoNext HasNext
two_next_of xs ys b all two =
    let next = two.4 in
    let last = next.1 in
    let s = all two.1 (two.0, two.2, two.3) in
    let t = all last.1 (last.0, last.2, last.3) in
    (s.0, two.1, s.1, s.2, (next.0, (t.0, last.1, t.1, t.2, last.4)))
