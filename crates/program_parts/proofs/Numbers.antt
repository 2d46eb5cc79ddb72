-- A word spells one number.
use Rattle.std.proofs.Common.{◌≡◌, ◌∙◌, ◌≤◌, ℕ, List, Option, Some, None, MatchOption, arith, sym, subst}
use Rattle.std.proofs.lemmas.Fmt.{decimal_injective}
use Rattle.program_parts.specs.Words.{SpellsNumber}

pub one_number : (word : List ℕ) (m n : ℕ) → SpellsNumber word m → SpellsNumber word n → m ≡ n
one_number word m n a b = decimal_injective m n (omega (arith, a.0)) (omega (arith, b.0)) (sym a.1 ∙ b.1)

-- what is made of the number that a word spells, where it is 1 to so many, is made of the word
pub bounded_word : {T : Type 0} (most : ℕ) (count : T → ℕ) (word : List ℕ) (n : ℕ) (r : Option T) → SpellsNumber word n → MatchOption r (1 ≤ n → n ≤ most → ⊥) (λ t. count t ≡ n)
    → MatchOption r ((m : ℕ) → 1 ≤ m → m ≤ most → SpellsNumber word m → ⊥) (λ t. SpellsNumber word (count t))
bounded_word most count word n None is none = λ m low high s. let same = one_number word m n s is in none (omega (arith, same, low)) (omega (arith, same, high))
bounded_word most count word n (Some t) is same = subst (SpellsNumber word) (sym same) is
