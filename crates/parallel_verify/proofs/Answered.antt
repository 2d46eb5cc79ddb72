-- What threads answered, each with the chance that memory was refused.
use Rattle.std.proofs.Common.{◌≡◌, List, [], ◌∷◌, Result, Ok, Err, IfOk, Vec, Global, map, sym, subst}
use Rattle.std.specs.Prelude.{MatchResult}
use Rattle.std.specs.List.{AllZip, Contains}
use Rattle.std.specs.declared.alloc.AllocError.{AllocError}

module _ {A B : Type 0} (R : A → B → Type 0) where
  abbrev pub IsIfAny : A → Result B AllocError → Type 0
  IsIfAny a r = IfOk r (R a)

  -- where no memory was refused, each has its answer
  all_answered : (xs : List A) (answers : List B) → AllZip IsIfAny xs (map Ok answers) → AllZip R xs answers
  all_answered [] [] zip = tt
  all_answered [] (b ∷ answers) zip = absurd zip
  all_answered (x ∷ xs) [] zip = absurd zip
  all_answered (x ∷ xs) (b ∷ answers) zip = (zip.0, all_answered xs answers zip.1)

  pub answers_of : (xs : List A) (given : List (Result B AllocError)) (r : Result (Vec B Global) AllocError) → AllZip IsIfAny xs given
      → MatchResult r (λ all. (answers : List B) × (given ≡ map Ok answers) × (all.items ≡ answers)) (λ e. Contains given (Err e)) → IfOk r (λ all. AllZip R xs all.items)
  answers_of xs given (Err e) zip are = tt
  answers_of xs given (Ok all) zip are =
      subst (AllZip R xs) (sym are.2) (all_answered xs are.0 (subst (AllZip IsIfAny xs) are.1 zip))
