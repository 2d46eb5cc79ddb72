-- Chains that are walked part by part.
use Rattle.std.proofs.Common.{◌≡◌, ◌≢◌, ℕ, ◌+◌, ◌-◌, ◌<◌, ◌≤◌, List, [], ◌∙◌, length, refl, slice_index, slice_index_or, slice_set, arith, inl, inr}
use Rattle.std.proofs.lemmas.Bool.{cases_lt}
use Rattle.std.proofs.lemmas.List.{get_or-set_same, get_or-set_other, length-set}
use Rattle.lmots.specs.Chains.{chain_steps, prefix}
use Rattle.lmots.specs.Walks.{AreFirst, HaveGoneOn, walked}
use Rattle.lmots.specs.declared.walks.Walks.{Walks}
use Rattle.lmots.proofs.SignedVerifies.{steps-then}

-- ---- lists of values

-- no value yet
pub first_none : (f : ℕ → List ℕ) (values : List (List ℕ)) → AreFirst 0 f values
first_none f values i lt = absurd (omega arith)

-- one value more
pub first_more : (f : ℕ → List ℕ) (values : List (List ℕ)) (n : ℕ) (value : List ℕ) → n < length values
    → AreFirst n f values → value ≡ f n → AreFirst (n + 1) f (slice_set values n value)
first_more f values n value room held e i lt = elim (cases_lt i n) [
  | inl a ↦
      let ne : i ≢ n = omega arith in
      get_or-set_other values n i value [] ne ∙ held i a
  | inr b ↦
      let same : i ≡ n = omega arith in
      rw same (get_or-set_same values n value [] room ∙ e)
]

-- ---- walks

-- where chain i leads, from parts that are known
pub walked_between : (walks : Walks) (i at until : ℕ) (value : List ℕ) → slice_index walks.at i ≡ at
    → slice_index walks.until i ≡ until → slice_index_or walks.values i [] ≡ value
    → walked walks i ≡ chain_steps (prefix walks.key_id walks.q i) at until value
unfolding walked
walked_between walks i at until value e1 e2 e3 = rw (e1, e2, e3) refl

pub gone_nowhere : (walks : Walks) → length walks.at ≡ 34 → length walks.values ≡ 34 → HaveGoneOn walks walks
gone_nowhere walks la lv = record { key_id = refl; q = refl; until = refl; steps = la; values = lv; ends = λ i lt. refl }

-- chain k of new, now at a step between those that it had before it in old
moved : Walks → ℕ → ℕ → List ℕ → Walks
moved new k at value =
    record { key_id = new.key_id; q = new.q; at = slice_set new.at k at; until = new.until; values = slice_set new.values k value }

same_end : (old new : Walks) (k at : ℕ) (value : List ℕ) → k < 34 → HaveGoneOn old new → slice_index old.at k ≤ at → at ≤ slice_index old.until k
    → value ≡ chain_steps (prefix old.key_id old.q k) (slice_index old.at k) at (slice_index_or old.values k [])
    → walked (moved new k at value) k ≡ walked old k
unfolding walked moved
same_end old new k at value lt on low high e =
    let rest : at + (slice_index old.until k - at) ≡ slice_index old.until k = omega arith in
    let p = prefix old.key_id old.q k in
    let go = steps-then p (slice_index old.at k) at (slice_index old.until k - at) (slice_index_or old.values k []) low in
    rw (
      get_or-set_same new.at k at 0 (omega (arith, on.steps)),
      get_or-set_same new.values k value [] (omega (arith, on.values)),
      on.key_id,
      on.q,
      on.until,
      e,
    )
    (rw rest at go)

other_end : (new : Walks) (k at i : ℕ) (value : List ℕ) → i ≢ k → walked (moved new k at value) i ≡ walked new i
unfolding walked moved
other_end new k at i value ne = rw (get_or-set_other new.at k i at 0 ne, get_or-set_other new.values k i value [] ne) refl

pub gone_on : (old new : Walks) (k at : ℕ) (value : List ℕ) → k < 34 → HaveGoneOn old new → slice_index old.at k ≤ at → at ≤ slice_index old.until k
    → value ≡ chain_steps (prefix old.key_id old.q k) (slice_index old.at k) at (slice_index_or old.values k [])
    → HaveGoneOn old (record { key_id = new.key_id; q = new.q; at = slice_set new.at k at; until = new.until; values = slice_set new.values k value })
unfolding moved
gone_on old new k at value lt on low high e =
    record {
      key_id = on.key_id;
      q = on.q;
      until = on.until;
      steps = length-set new.at k at ∙ on.steps;
      values = length-set new.values k value ∙ on.values;
      ends = λ i small. elim (cases_lt i k) [
        | inl a ↦ other_end new k at i value (omega arith) ∙ on.ends i small
        | inr b ↦ elim (cases_lt k i) [
          | inl a ↦ other_end new k at i value (omega arith) ∙ on.ends i small
          | inr d ↦
              let same : i ≡ k = omega arith in
              rw same (same_end old new k at value lt on low high e)
        ]
      ];
    }
