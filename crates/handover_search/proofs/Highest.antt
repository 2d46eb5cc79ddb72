-- The highest of rising blocks.
use Rattle.std.proofs.Common.{◌≡◌, ◌<◌, ◌≤◌, ◌-◌, ℕ, List, Option, Some, None, length, get_or, refl, sym, ◌∙◌, ap, subst, inl, inr, arith}
use Rattle.std.specs.Cmp.Lexicographic.{slice_cmp}
use Rattle.std.specs.List.{AllPairs, Contains}
use Rattle.std.specs.Ordering.{nat_cmp, ordering_then}
use Rattle.std.specs.Prelude.{IfSome, slice_get}
use Rattle.std.specs.declared.cmp.Ordering.{Ordering}
use Rattle.std.specs.declared.cmp.Ordering.TheVariants.{Less, Equal, Greater}
use Rattle.std.proofs.lemmas.Bool.{cases_lt}
use Rattle.std.proofs.lemmas.Cmp.{ranked}
use Rattle.std.proofs.lemmas.Option.{get_or_from_slice_get, slice_get-get_or, slice_get_within}
use Rattle.blocks.specs.Headers.{Header, header_id}
use Rattle.blocks.specs.Weights.{committee_of}
use Rattle.audit_evidence.specs.Evidence.{Evidence, IsEvidence}
use Rattle.audit_commits.specs.Commits.{HasNoConflict, IsLowerBlock}
use Rattle.handover_blocks.specs.Handovers.{IsFirstCommitted, IsHandover}
use Rattle.handover_blocks.specs.HandoverLaws.{OneFirstWhereNoneConflict}
use Rattle.handover_search.specs.Searches.{IsOnlyHandover}

not_above : (v w : ℕ) (o p : Ordering) → o ≡ nat_cmp v w → ordering_then o p ≡ Less → v ≤ w
not_above v w Less p e l = let k : v < w = ranked v w Less e in omega arith
not_above v w Equal p e l = let k : v ≡ w = ranked v w Equal e in omega arith
not_above v w Greater p e l = absurd cc

-- no block of a rising list is above its last one
pub highest : (xs : List Header) (u t : Header) → AllPairs IsLowerBlock xs → slice_get xs (length xs - 1) ≡ Some u → Contains xs t → t.view ≤ u.view
highest xs u t rising last there =
    let k = there.0 in
    let n = length xs in
    let l : k < n = there.1 in
    let at : get_or xs k t ≡ t = there.2 in
    let is_last : get_or xs (n - 1) t ≡ u = get_or_from_slice_get xs (n - 1) u t last in
    elim (cases_lt k (n - 1)) [
      | inl before ↦
          let low : IsLowerBlock t u =
          subst (λ (h : Header). IsLowerBlock t h) is_last (subst (λ (h : Header). IsLowerBlock h (get_or xs (n - 1) t)) at (rising k (n - 1) t before (omega arith))) in
          not_above t.view u.view (nat_cmp t.view u.view) (slice_cmp nat_cmp (header_id t) (header_id u)) refl low
      | inr le ↦
          let same : k ≡ n - 1 = omega arith in
          let e : t ≡ u = sym at ∙ ap (λ (i : ℕ). get_or xs i t) same ∙ is_last in
          let v = ap (λ (h : Header). h.view) e in omega arith
    ]

-- the last of them is one of them
pub last_there : (xs : List Header) (u : Header) → slice_get xs (length xs - 1) ≡ Some u → Contains xs u
last_there xs u last = (length xs - 1, slice_get_within xs (length xs - 1) u last, get_or_from_slice_get xs (length xs - 1) u u last)

-- none has a last one just where there are none
pub none_there : (xs : List Header) (t : Header) → slice_get xs (length xs - 1) ≡ None → Contains xs t → ⊥
none_there xs t none there =
    let l : there.0 < length xs = there.1 in
    let some = slice_get-get_or xs (length xs - 1) t (omega arith) in
    cc

-- ---- the only one

pub only_one : (e : Evidence) (o : Option Header) → OneFirstWhereNoneConflict → IsEvidence e → HasNoConflict (committee_of e.committee) e
    → IfSome o (IsFirstCommitted (committee_of e.committee) e IsHandover) → IfSome o (IsOnlyHandover e)
only_one e None alone is agree first = tt
only_one e (Some b) alone is agree first = λ d k. alone e d b is agree k first
