-- One word after the other, up to the first that is wrong.
use Rattle.std.proofs.Common.{◌≡◌, ◌<◌, ◌≤◌, ◌-◌, arith, drop, get_or, length, take, ℕ, List, [], ◌∷◌, Option, Some, None, String, string_bytes, inl, inr, refl, subst, sym}
use Rattle.std.proofs.Math.Seq.{take-length}
use Rattle.std.specs.declared.alloc.Global.{Global}
use Rattle.signer_command.specs.WrongWords.{IsFirstWrong, IsGood, next_awaited}
use Rattle.signer_command.specs.declared.wrong_words.Awaited.{Awaited}

-- no word is left
pub none_wrong : (awaited : Awaited) (words : List (String Global)) → length words < 1 → IsFirstWrong awaited words None
unfolding IsFirstWrong
none_wrong awaited [] few = refl
none_wrong awaited (w ∷ ws) few = absurd (omega arith)

-- the next one is wrong
pub is_wrong : (awaited : Awaited) (words : List (String Global)) (w : String Global) (text : List ℕ) → 1 ≤ length words → w ≡ get_or words 0 w
    → text ≡ string_bytes w → (IsGood awaited text → ⊥) → IsFirstWrong awaited words (Some text)
unfolding IsFirstWrong
is_wrong awaited [] w text some is spelled bad = absurd (omega arith)
is_wrong awaited (v ∷ vs) w text some is spelled bad =
    let same : text ≡ string_bytes v = subst (λ (x : String Global). text ≡ string_bytes x) is spelled in
    let wrong : IsGood awaited (string_bytes v) → ⊥ = subst (λ (t : List ℕ). IsGood awaited t → ⊥) same bad in
    subst (λ (t : List ℕ). IsFirstWrong awaited (v ∷ vs) (Some t)) (sym same) (inr (wrong, refl))

-- .. or it is good, and of those behind it this is the first
pub goes_on : (awaited next : Awaited) (words : List (String Global)) (w : String Global) (text : List ℕ) (wrong : Option (List ℕ)) → 1 ≤ length words
    → w ≡ get_or words 0 w → text ≡ string_bytes w → IsGood awaited text → next ≡ next_awaited awaited text
    → IsFirstWrong next (take (length words - 1) (drop 1 words)) wrong → IsFirstWrong awaited words wrong
unfolding IsFirstWrong
goes_on awaited next [] w text wrong some is spelled good then rest = absurd (omega arith)
goes_on awaited next (v ∷ vs) w text wrong some is spelled good then rest =
    let same : text ≡ string_bytes v = subst (λ (x : String Global). text ≡ string_bytes x) is spelled in
    let right : IsGood awaited (string_bytes v) = subst (IsGood awaited) same good in
    let state : next ≡ next_awaited awaited (string_bytes v) = subst (λ (t : List ℕ). next ≡ next_awaited awaited t) same then in
    let fewer : length (v ∷ vs) - 1 ≡ length vs = omega arith in
    let behind : IsFirstWrong next (take (length vs) vs) wrong = subst (λ (n : ℕ). IsFirstWrong next (take n vs) wrong) fewer rest in
    let all : IsFirstWrong next vs wrong = subst (λ (ws : List (String Global)). IsFirstWrong next ws wrong) (take-length vs) behind in
    inl (right, subst (λ (a : Awaited). IsFirstWrong a vs wrong) state all)
