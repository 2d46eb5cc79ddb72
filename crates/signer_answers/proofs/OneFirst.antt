-- The first entry of a log.
use Rattle.std.proofs.Common.{◌≡◌, ◌∙◌, ◌⊎◌, ℕ, ◌<◌, List, [], Bool, true, false, not, get_or, refl, subst, sym, arith, inl, inr}
use Rattle.std.specs.Prelude.{◌↔◌, IsTrue}
use Rattle.std.proofs.lemmas.Bool.{false≢true}
use Rattle.log_format.specs.EntryText.{Entry, IsEntryOf}
use Rattle.log_format.proofs.EntryLaws.{one_spelling}
use Rattle.signer_answers.specs.OtherChain.{IsFirstEntry, IsOfChain, IsOfOtherChain}

compared : (j k : ℕ) → (j < k) ⊎ (k < j) ⊎ (j ≡ k)
compared j k = grind arith

-- there is one
pub one_first : (frames : List (List ℕ)) (e f : Entry) → IsFirstEntry frames e → IsFirstEntry frames f → e ≡ f
one_first frames e f first other = elim (compared first.place other.place) [
  | inl before ↦ absurd (other.before first.place before e first.spelled)
  | inr (inl behind) ↦ absurd (first.before other.place behind f other.spelled)
  | inr (inr same) ↦
      let spelled : IsEntryOf (get_or frames first.place []) f = subst (λ (k : ℕ). IsEntryOf (get_or frames k []) f) (sym same) other.spelled in
      one_spelling e f first.spelled.entry spelled.entry (sym first.spelled.text ∙ spelled.text)
]

-- whether its certificate is of the chain tells whether the log is
pub told_by_first : (committee : List ℕ) (frames : List (List ℕ)) (e : Entry) (is : Bool)
    → IsFirstEntry frames e → (IsTrue is ↔ IsOfChain committee e.certificate) → (IsTrue (not is) ↔ IsOfOtherChain committee frames)
told_by_first committee frames e true first told =
    (λ t. absurd (false≢true t), λ other. absurd (other.2 (subst (λ (f : Entry). IsOfChain committee f.certificate) (one_first frames e other.0 first other.1) (told.0 refl))))
told_by_first committee frames e false first told = (λ t. (e, first, λ of. false≢true (told.1 of)), λ other. refl)
