-- Ids that rise, header by header.
use Rattle.std.proofs.Common.{◌≡◌, ◌≢◌, inl, inr, ℕ, ◌+◌, ◌-◌, ◌<◌, List, length, get_or, take, subst, arith}
use Rattle.std.specs.List.{All}
use Rattle.std.proofs.lemmas.Bool.{cases_lt}
use Rattle.std.proofs.lemmas.Cmp.{nat_list_cmp_total}
use Rattle.std.proofs.lemmas.List.Elements.{All-contains, All-more}
use Rattle.blocks.specs.Headers.{Header, header_id}
use Rattle.blocks.specs.Headers.{HasLowerId}
use Rattle.ancestry.specs.Known.{IsAloneAmong}

-- each id is below those behind it, up to a place
abbrev pub RisesBelow : List Header → ℕ → Type 0
RisesBelow hs n = (i j : ℕ) (d : Header) → i < j → j < n → HasLowerId (get_or hs i d) (get_or hs j d)

pub rises_more : (hs : List Header) (k : ℕ) → 0 < k → RisesBelow hs k → ((d : Header) → HasLowerId (get_or hs (k - 1) d) (get_or hs k d)) → RisesBelow hs (k + 1)
rises_more hs k some before step i j d less below =
    elim (cases_lt j k) [
      | inl inner ↦ before i j d less inner
      | inr here ↦
          let last : k ≡ j = omega arith in
          subst (λ (n : ℕ). HasLowerId (get_or hs i d) (get_or hs n d)) last (elim (cases_lt i (k - 1)) [
            | inl far ↦ nat_list_cmp_total.trans (header_id (get_or hs i d)) (header_id (get_or hs (k - 1) d)) (header_id (get_or hs k d)) (before i (k - 1) d far (omega arith)) (step d)
            | inr near ↦ let is : k - 1 ≡ i = omega arith in subst (λ (n : ℕ). HasLowerId (get_or hs n d) (get_or hs k d)) is (step d)
          ])
    ]

pub alone_from : (genesis : Header) (hs : List Header) → All (λ h. header_id h ≢ header_id genesis) hs → IsAloneAmong genesis hs
alone_from genesis hs others h there same = absurd (All-contains (λ x. header_id x ≢ header_id genesis) hs h others there same)

pub others_more : (genesis : Header) (hs : List Header) (k : ℕ) (h : Header) → k < length hs → h ≡ get_or hs k h → All (λ x. header_id x ≢ header_id genesis) (take k hs) → header_id h ≢ header_id genesis
    → All (λ x. header_id x ≢ header_id genesis) (take (k + 1) hs)
others_more genesis hs k h there is before other =
    All-more (λ x. header_id x ≢ header_id genesis) hs k h there before (subst (λ (x : Header). header_id x ≢ header_id genesis) is other)
