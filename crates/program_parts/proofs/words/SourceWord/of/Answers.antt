use Rattle.std.proofs.Common.{◌≡◌, ◌∙◌, ◌++◌, ◌∷◌, ℕ, List, Option, Bor, None, Some, MatchOption, arith, rules, sym, subst}
use Rattle.std.proofs.lemmas.Str.Pattern.{IsSplitOnceResult}
use Rattle.program_parts.specs.Words.{SpellsSource}
use Rattle.program_parts.specs.declared.words.SourceWord.{SourceWord}
use Rattle.program_parts.proofs.Sources.{IsCut, cut_of_source, joined_again}
use Rattle.program_parts.proofs.words.SourceWord.of.Goals as goal

abbrev IsAnswer : List ℕ → Option SourceWord → Type 0
IsAnswer word r = MatchOption r ((source : SourceWord) → SpellsSource word source → ⊥) (λ source. SpellsSource word source)

pub returns-in_err-replica : goal.returns-in_err-replica
returns-in_err-replica c =
    let none : c.split_once.result ≡ None = search rules in
    subst (IsAnswer c.args.word.now) (sym c.from_residual.ensures)
    (λ source s. subst (λ (r : Option (Bor (List ℕ) × Bor (List ℕ))). MatchOption r ⊥ (IsCut source)) none (cut_of_source c.args.word.now c.split_once.result source c.split_once.ensures.cases s))

pub returns-in_err-number : goal.returns-in_err-number
returns-in_err-number c =
    let some : c.split_once.result ≡ Some (c.in_ok-replica.replica, c.in_ok-replica.origin) = search rules in
    subst (IsAnswer c.args.word.now) (sym c.from_residual-in_err-number.ensures)
    (λ source s.
    let cut = subst (λ (r : Option (Bor (List ℕ) × Bor (List ℕ))). MatchOption r ⊥ (IsCut source)) some (cut_of_source c.args.word.now c.split_once.result source c.split_once.ensures.cases s) in
    c.in_err-number.ensures source.replica cut.0)

pub returns-in_err-of : goal.returns-in_err-of
returns-in_err-of c =
    let some : c.split_once.result ≡ Some (c.in_ok-replica.replica, c.in_ok-replica.origin) = search rules in
    subst (IsAnswer c.args.word.now) (sym c.from_residual-in_err-of.ensures)
    (λ source s.
    let cut = subst (λ (r : Option (Bor (List ℕ) × Bor (List ℕ))). MatchOption r ⊥ (IsCut source)) some (cut_of_source c.args.word.now c.split_once.result source c.split_once.ensures.cases s) in
    c.in_err-of.ensures source.origin cut.1)

pub returns : goal.returns
returns c =
    let some : c.split_once.result ≡ Some (c.in_ok-replica.replica, c.in_ok-replica.origin) = search rules in
    let spelled = joined_again c.args.word.now (c.in_ok-replica.replica, c.in_ok-replica.origin) (subst (IsSplitOnceResult 61 c.args.word.now) some c.split_once.ensures.cases) in
    (c.in_ok-replica.replica.now, c.in_ok-replica.origin.now, spelled, c.in_ok-number.ensures, c.in_ok-of.ensures)
