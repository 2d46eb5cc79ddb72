-- A word spells a source in one way.
use Rattle.std.proofs.Common.{◌≡◌, ◌<◌, ◌+◌, ◌%◌, ◌^◌, ◌≤◌, ℕ, List, [], ◌∷◌, ◌++◌, decimal, inl, inr, refl, sym, ◌∙◌, subst, arith}
use Rattle.std.specs.Borrow.{Bor}
use Rattle.std.specs.List.{Contains}
use Rattle.std.proofs.lemmas.Fmt.{decimal_by_steps}
use Rattle.std.proofs.lemmas.List.Elements.{Contains-append_right, Contains-push_cases}
use Rattle.program_parts.specs.Words.{SpellsNumber, SpellsOrigin, SpellsSource}
use Rattle.program_parts.specs.declared.words.Origin.{Origin}
use Rattle.program_parts.specs.declared.words.Origin.TheVariants.{File, Tcp}
use Rattle.program_parts.specs.declared.words.SourceWord.{SourceWord}
use Rattle.program_draw.specs.Words.{IsFileAt, SpellsNoFile}

one_digit : (n : ℕ) → n < 10 → Contains ((48 + n) ∷ []) 61 → ⊥
one_digit n below c = elim (Contains-push_cases [] (48 + n) 61 c) [
  | inl none ↦ absurd (let short = none.1 in omega arith)
  | inr e ↦ absurd (omega arith)
]

more_digits : (n : ℕ) (ds : List ℕ) → 10 ≤ n → (Contains ds 61 → ⊥) → Contains (ds ++ (48 + n % 10) ∷ []) 61 → ⊥
more_digits n ds long none c = elim (Contains-push_cases ds (48 + n % 10) 61 c) [
  | inl before ↦ none before
  | inr e ↦ absurd (omega arith)
]

-- no '=' stands in a number
no_equals : (n : ℕ) → n < 2 ^ 64 → Contains (decimal n) 61 → ⊥
no_equals n small = decimal_by_steps (λ _ ds. Contains ds 61 → ⊥) one_digit more_digits n small

rest_of : (x : ℕ) (xs : List ℕ) → (Contains (x ∷ xs) 61 → ⊥) → Contains xs 61 → ⊥
rest_of x xs none c = none (Contains-append_right (x ∷ []) xs 61 c)

head_of : {x y : ℕ} {xs ys : List ℕ} → (x ∷ xs) ≡ (y ∷ ys) → (x ≡ y) × (xs ≡ ys)
head_of e = (cc, cc)

-- what stands behind the first '=' is one
behind : (a b c d : List ℕ) → (Contains a 61 → ⊥) → (Contains c 61 → ⊥) → a ++ 61 ∷ b ≡ c ++ 61 ∷ d → b ≡ d
behind [] b [] d none_a none_c e = (head_of e).1
behind [] b (y ∷ c) d none_a none_c e = absurd (none_c (0, omega arith, sym (head_of e).0))
behind (x ∷ a) b [] d none_a none_c e = absurd (none_a (0, omega arith, (head_of e).0))
behind (x ∷ a) b (y ∷ c) d none_a none_c e = behind a b c d (rest_of x a none_a) (rest_of y c none_c) (head_of e).1

number_without : (digits : List ℕ) (n : ℕ) → SpellsNumber digits n → Contains digits 61 → ⊥
number_without digits n (small, is) c =
    let wide : n < 2 ^ 64 = omega arith in
    no_equals n wide (subst (λ (t : List ℕ). Contains t 61) is c)

-- two spellings of a word have one origin
one_origin : (word : List ℕ) (a b : SourceWord) (one : SpellsSource word a) (other : SpellsSource word b) → one.1 ≡ other.1
one_origin word a b (digits, origin, is, number, of) (digits', origin', is', number', of') =
    let same : digits ++ 61 ∷ origin ≡ digits' ++ 61 ∷ origin' = sym is ∙ is' in
    behind digits origin digits' origin' (number_without digits a.replica number) (number_without digits' b.replica number') same

file_is_not_tcp : (origin : List ℕ) (path address : Bor (List ℕ)) → SpellsOrigin origin (File path) → SpellsOrigin origin (Tcp address) → ⊥
file_is_not_tcp origin path address of other =
    let heads = (head_of (sym of.1 ∙ other.1)).0 in
    omega arith

file_or_tcp : (word : List ℕ) (a b : SourceWord) (path : List ℕ) (address : Bor (List ℕ)) (from : Origin) → from ≡ a.origin → IsFileAt from path → b.origin ≡ Tcp address
    → SpellsSource word a → SpellsSource word b → ⊥
file_or_tcp word a b path address (File p) is at tcp one other =
    let of : SpellsOrigin one.1 (File p) = subst (λ (o : Origin). SpellsOrigin one.1 o) (sym is) one.4 in
    let of' : SpellsOrigin other.1 (Tcp address) = subst (λ (o : Origin). SpellsOrigin other.1 o) tcp other.4 in
    file_is_not_tcp other.1 p address (subst (λ (o : List ℕ). SpellsOrigin o (File p)) (one_origin word a b one other) of) of'
file_or_tcp word a b path address (Tcp t) is at tcp one other = absurd at

-- a word that names a server spells no file
pub tcp_is_no_file : (word : List ℕ) (b : SourceWord) (address : Bor (List ℕ)) → b.origin ≡ Tcp address → SpellsSource word b → SpellsNoFile word
tcp_is_no_file word b address tcp spelled replica path is =
    file_or_tcp word is.source b path address is.source.origin refl is.from tcp is.spelled spelled
