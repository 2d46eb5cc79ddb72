-- The words of sources, cut at their "=".
use Rattle.std.proofs.Common.{◌≡◌, ◌≢◌, ◌∙◌, ◌<◌, ◌^◌, ◌++◌, ◌∷◌, ℕ, List, Option, Some, None, MatchOption, Bor, arith, sym, subst, ap, length, refl}
use Rattle.std.specs.Prelude.{codes, decimal}
use Rattle.std.specs.Str.Parse.{AllDigits}
use Rattle.std.proofs.lemmas.Fmt.{decimal_is_IsNumeral}
use Rattle.std.proofs.lemmas.Str.Parse.{digit_at}
use Rattle.std.proofs.lemmas.Str.Pattern.{IsSplitOnceResult, split_after, split_parts}
use Rattle.program_parts.specs.Words.{SpellsNumber, SpellsOrigin, SpellsSource}
use Rattle.program_parts.specs.declared.words.Origin.{Origin}
use Rattle.program_parts.specs.declared.words.SourceWord.{SourceWord}

-- what stands before the first "=" of a source's word is its replica's number, and its origin what stands behind
abbrev pub IsCut : SourceWord → Bor (List ℕ) × Bor (List ℕ) → Type 0
IsCut source parts = SpellsNumber parts.0.now source.replica × SpellsOrigin parts.1.now source.origin

pub cut_of_source : (word : List ℕ) (r : Option (Bor (List ℕ) × Bor (List ℕ))) (source : SourceWord) → IsSplitOnceResult 61 word r → SpellsSource word source → MatchOption r ⊥ (IsCut source)
cut_of_source word None source h s =
    split_after 61 word s.0 s.1 None h (omega arith) s.2 (λ i l e. let d = digit_at s.0 i (subst (AllDigits 10) (sym s.3.1) (decimal_is_IsNumeral source.replica (omega (arith, s.3.0))).0.1) l in omega (arith, e))
cut_of_source word (Some x) source h s =
    let k = split_after 61 word s.0 s.1 (Some x) h (omega arith) s.2 (λ i l e. let d = digit_at s.0 i (subst (AllDigits 10) (sym s.3.1) (decimal_is_IsNumeral source.replica (omega (arith, s.3.0))).0.1) l in omega (arith, e)) in
    (subst (λ (t : List ℕ). SpellsNumber t source.replica) (sym k.0) s.3, subst (λ (t : List ℕ). SpellsOrigin t source.origin) (sym k.1) s.4)

pub joined_again : (word : List ℕ) (x : Bor (List ℕ) × Bor (List ℕ)) → IsSplitOnceResult 61 word (Some x) → word ≡ x.0.now ++ (61 ∷ x.1.now)
joined_again word x h = (split_parts 61 word (Some x) h (omega arith)).0
