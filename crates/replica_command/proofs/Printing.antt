-- Outcomes that are printed one after the other.
use Rattle.std.proofs.Common.{◌≡◌, ◌+◌, ◌⊎◌, ℕ, zero, suc, List, [], ◌∷◌, ◌++◌, Option, Some, sym, subst, ◌∙◌, ap, length, inl, inr, refl}
use Rattle.std.specs.List.{slice_get}
use Rattle.std.proofs.lemmas.Grind.{flat_map-append}
use Rattle.std.proofs.lemmas.List.{append-nil, length_push}
use Rattle.std.proofs.lemmas.Option.{none-some, same_Some}
use Rattle.base_streams.specs.Streams.{Wrote}
use Rattle.base_streams.proofs.Writing.{wrote_nothing, wrote_both}
use Rattle.replica_requests.specs.OutcomeLines.{answer_line}
use Rattle.replica_requests.specs.declared.outcome_line.LineOutcome.{LineOutcome}
use Rattle.replica_command.specs.Dealing.{IsOutcomeAt}
use Rattle.replica_command.specs.StayAnswers.{both_endings, ending_of, ending_of_all}
use Rattle.replica_command.specs.StayText.{IsPrinted, answers}
use Rattle.replica_command.specs.declared.staying.Ending.{Ending}
use Rattle.replica_command.specs.declared.staying.Ending.TheVariants.{Done, Stopped}
use Rattle.replica_command.specs.declared.worker.Answered.{Answered}

-- at a place of a list with one element more there is an element from before, or the new one
slice_get-push : {X : Type 0} (xs : List X) (y x : X) (k : ℕ) → slice_get (xs ++ y ∷ []) k ≡ Some x → (slice_get xs k ≡ Some x) ⊎ ((k ≡ length xs) × (y ≡ x))
slice_get-push [] y x zero e = inr (refl, same_Some y x e)
slice_get-push [] y x (suc k) e = absurd (none-some x e)
slice_get-push (z ∷ xs) y x zero e = inl e
slice_get-push (z ∷ xs) y x (suc k) e =
    elim (slice_get-push xs y x k e) [ inl h ↦ inl h | inr h ↦ inr (ap (λ (n : ℕ). suc n) h.0, h.1) ]

-- one ending more, behind the others
both_endings-Done : (a : Ending) → both_endings a Done ≡ a
both_endings-Done Done = refl
both_endings-Done Stopped = refl

both_endings-assoc : (a b c : Ending) → both_endings (both_endings a b) c ≡ both_endings a (both_endings b c)
both_endings-assoc Done b c = refl
both_endings-assoc Stopped b c = refl

ending_of_all-push : (outcomes : List LineOutcome) (outcome : LineOutcome) → ending_of_all (outcomes ++ outcome ∷ []) ≡ both_endings (ending_of_all outcomes) (ending_of outcome)
ending_of_all-push [] outcome = both_endings-Done (ending_of outcome)
ending_of_all-push (o ∷ rest) outcome =
    ap (λ (e : Ending). both_endings (ending_of o) e) (ending_of_all-push rest outcome)
    ∙ sym (both_endings-assoc (ending_of o) (ending_of_all rest) (ending_of outcome))

-- nothing was printed yet
pub printed_none : (before : Option (List ℕ)) (all : List (List Answered)) → IsPrinted before before all 0 Done
printed_none before all = record {
  outcomes = [];
  many = refl;
  found = λ k outcome e. absurd (none-some outcome e);
  ends = refl;
  wrote = wrote_nothing before;
}

-- one outcome more was printed
pub printed_one_more : (before mid after : Option (List ℕ)) (all : List (List Answered)) (count : ℕ) (ending then both : Ending) (outcome : LineOutcome)
    → IsPrinted before mid all count ending → IsOutcomeAt all count outcome → then ≡ ending_of outcome → both ≡ both_endings ending then → Wrote mid after (answer_line outcome)
    → IsPrinted before after all (count + 1) both
printed_one_more before mid after all count ending then both outcome p here is_then is_both wrote =
    let os = p.outcomes in record {
      outcomes = os ++ outcome ∷ [];
      many = length_push os outcome ∙ ap (λ (n : ℕ). n + 1) p.many;
      found = λ k o e. elim (slice_get-push os outcome o k e) [
        | inl h ↦ p.found k o h
        | inr h ↦ subst (λ (x : LineOutcome). IsOutcomeAt all k x) h.1 (subst (λ (n : ℕ). IsOutcomeAt all n outcome) (sym (h.0 ∙ p.many)) here)
      ];
      ends = is_both ∙ ap (λ (e : Ending). both_endings ending e) is_then ∙ ap (λ (e : Ending). both_endings e (ending_of outcome)) p.ends
          ∙ sym (ending_of_all-push os outcome);
      wrote = subst (λ (t : List ℕ). Wrote before after t) (sym (flat_map-append answer_line os (outcome ∷ [])))
          (wrote_both before mid after (answers os) (answers (outcome ∷ [])) p.wrote
          (subst (λ (t : List ℕ). Wrote mid after t) (sym (append-nil (answer_line outcome))) wrote));
    }
