-- A part that opens a log.
use Rattle.std.specs.Prelude.{◌≡◌, ◌≢◌, ◌<◌, ◌∷◌, ℕ, List, [], length, take, slice_index_or, refl}
use Rattle.std.proofs.Common.{arith, inl, inr, sym, ap, subst, ◌∙◌}
use Rattle.std.specs.List.{All}
use Rattle.std.proofs.lemmas.List.Elements.{All-get_or}
use Rattle.watch_state.specs.Digests.{log_digest}
use Rattle.watch_state.specs.Logs.{HasFront, Opens, StandsBehind}
use Rattle.watch_state.specs.declared.name.PartName.{PartName}

-- it stands behind some frames, and behind the beginning of no log
pub no_opening : (logs : List (List (List ℕ))) (p : PartName) → p.place ≢ 0 → All (λ log. HasFront p log → ⊥) logs
    → (front : List (List ℕ)) → Opens logs p front → ⊥
no_opening logs p some none front o = elim o.from [
  | inl empty ↦ some (sym o.behind.place ∙ ap length empty)
  | inr found ↦ All-get_or (λ log. HasFront p log → ⊥) logs found.0 [] found.1.log none
      (found.1.long, subst (StandsBehind p) found.1.beginning found.1.behind)
]

-- it stands behind no frame, and its name says otherwise
pub opens_nowhere : (logs : List (List (List ℕ))) (p : PartName) → p.place ≡ 0 → p.front ≢ log_digest []
    → (front : List (List ℕ)) → Opens logs p front → ⊥
opens_nowhere logs p none other front o = elim front as (λ f. Opens logs p f → ⊥) [
  | [] ↦ λ opens. other (sym opens.behind.digest)
  | (x ∷ xs) ↦ λ opens. absurd (omega (arith, opens.behind.place, none))
] o

-- it stands behind no frame
pub opens_anew : (logs : List (List (List ℕ))) (p : PartName) → p.log ≡ length logs → p.place ≡ 0 → log_digest [] ≡ p.front → Opens logs p []
opens_anew logs p log none digest = record { log = log; from = inl refl; behind = record { place = sym none; digest = digest } }

-- it stands behind the beginning of this log
pub opens_as : (logs : List (List (List ℕ))) (p : PartName) (k : ℕ) (front : List (List ℕ)) → p.log ≡ length logs → k < length logs
    → HasFront p (slice_index_or logs k []) → front ≡ take p.place (slice_index_or logs k []) → Opens logs p front
opens_as logs p k front log there has is = let behind : StandsBehind p front = subst (StandsBehind p) (sym is) has.1 in record {
  log = log;
  from = inr (k, record { log = there; long = has.0; beginning = is; behind = behind });
  behind = behind;
}
