-- A name of a part is read again from its text.
use Rattle.std.proofs.Common.{◌≡◌, ◌%◌, ◌<◌, ◌≤◌, ◌^◌, ◌+◌, ◌∙◌, ℕ, zero, suc, List, [], ◌∷◌, ◌++◌, append_assoc, Some, None, Result, Ok, Err, false, true, ap, arith, inl, inr, length, refl, subst, sym, take}
use Rattle.std.specs.Prelude.{MatchResult, codes, decimal, is_ok}
use Rattle.std.specs.List.{Contains}
use Rattle.std.proofs.Math.Seq.{take-append_seam}
use Rattle.std.proofs.lemmas.Fmt.{decimal_by_steps}
use Rattle.std.proofs.lemmas.List.{length-append}
use Rattle.std.proofs.lemmas.List.Elements.{Contains-append_cases, Contains-append_right}
use Rattle.hex.specs.Hex.{decode_sized, encode_lower, lower_digits}
use Rattle.hex.specs.declared.error.FromHexError.{FromHexError}
use Rattle.hex.proofs.HexLemmas.{decode_sized-encode_lower, length-encode_with}
use Rattle.watch_state.specs.Names.{IsDigest, name_text}
use Rattle.watch_state.specs.declared.name.PartName.{PartName}

-- ---- no hyphen stands in a number

one_digit : (d : ℕ) → Contains ((48 + d) ∷ []) 45 → ⊥
one_digit d (zero, below, is) = omega (arith, is)
one_digit d (suc k, below, is) = omega (arith, below)

no_hyphen : (n : ℕ) → n < 2 ^ 64 → Contains (decimal n) 45 → ⊥
no_hyphen n low =
    decimal_by_steps (λ m ds. Contains ds 45 → ⊥) (λ m small. one_digit m)
    (λ m ds large none there. elim (Contains-append_cases ds ((48 + m % 10) ∷ []) 45 there) [
      | inl front ↦ none front
      | inr last ↦ one_digit (m % 10) last
    ]) n low

-- ---- a text has one first hyphen

head_of : {x y : ℕ} {xs ys : List ℕ} → (x ∷ xs) ≡ (y ∷ ys) → (x ≡ y) × (xs ≡ ys)
head_of e = (cc, cc)

rest_of : (x : ℕ) (xs : List ℕ) → (Contains (x ∷ xs) 45 → ⊥) → Contains xs 45 → ⊥
rest_of x xs none c = none (Contains-append_right (x ∷ []) xs 45 c)

one_cut : (a b c d : List ℕ) → (Contains a 45 → ⊥) → (Contains c 45 → ⊥) → a ++ 45 ∷ b ≡ c ++ 45 ∷ d → (a ≡ c) × (b ≡ d)
one_cut [] b [] d none_a none_c e = (refl, (head_of e).1)
one_cut [] b (y ∷ c) d none_a none_c e = absurd (none_c (0, omega arith, sym (head_of e).0))
one_cut (x ∷ a) b [] d none_a none_c e = absurd (none_a (0, omega arith, (head_of e).0))
one_cut (x ∷ a) b (y ∷ c) d none_a none_c e =
    let both = head_of e in
    let more = one_cut a b c d (rest_of x a none_a) (rest_of y c none_c) both.1 in
    let first = both.0 in
    let second = more.0 in
    (cc, more.1)

-- a text in which a hyphen stands contains it
pub with_hyphen : (text front back : List ℕ) → text ≡ front ++ 45 ∷ back → Contains text 45
with_hyphen text front back is =
    subst (λ (t : List ℕ). Contains t 45) (sym is) (Contains-append_right front (45 ∷ back) 45 (0, omega arith, refl))

-- what is cut at the first hyphen is the number that stands there, and the rest
pub number_cut : (text front back rest : List ℕ) (number : ℕ) → number < 2 ^ 16 → text ≡ decimal number ++ 45 ∷ rest
    → (text ≡ front ++ 45 ∷ back) × (Contains front 45 → ⊥) → (front ≡ decimal number) × (back ≡ rest)
number_cut text front back rest number low is (cut, none) =
    one_cut front back (decimal number) rest none (no_hyphen number (omega (arith, low))) (sym cut ∙ is)

-- ---- a digest is read again from its digits

digits_long : (front : List ℕ) → IsDigest front → length (encode_lower front) ≡ 64
digits_long front is =
    let twice = length-encode_with lower_digits front in
    let long = is.0 in
    omega (arith, twice, long)

-- there are 64 bytes
pub digits_fit : (text front rest : List ℕ) → IsDigest front → text ≡ encode_lower front ++ rest → 64 ≤ length text
digits_fit text front rest is spelled =
    let long = digits_long front is in
    let whole = length-append (encode_lower front) rest in
    let same = ap (λ (t : List ℕ). length t) spelled in
    omega (arith, long, whole, same)

-- .. the first of which are the digits
pub digits_first : (text front rest : List ℕ) → IsDigest front → text ≡ encode_lower front ++ rest → take 64 text ≡ encode_lower front
digits_first text front rest is spelled =
    ap (λ (t : List ℕ). take 64 t) spelled
    ∙ subst (λ (n : ℕ). take n (encode_lower front ++ rest) ≡ encode_lower front) (digits_long front is) (take-append_seam (encode_lower front) rest)

pub digest_again : (digits front out : List ℕ) (result : Result (Unit {0}) FromHexError) → IsDigest front → digits ≡ encode_lower front
    → MatchResult (decode_sized digits 32) (λ bytes. (result ≡ Ok tt) × (out ≡ bytes)) (λ e. result ≡ Err e)
    → (result ≡ Ok tt) × (out ≡ front)
digest_again digits front out result is printed read =
    subst (λ (d : Result (List ℕ) FromHexError). MatchResult d (λ bytes. (result ≡ Ok tt) × (out ≡ bytes)) (λ e. result ≡ Err e))
    (ap (λ (text : List ℕ). decode_sized text 32) printed ∙ decode_sized-encode_lower front 32 is.0 is.1) read

pub not_read : (result : Result (Unit {0}) FromHexError) → false ≡ is_ok result → result ≡ Ok tt → ⊥
not_read result failed read = let never : false ≡ true = failed ∙ ap is_ok read in cc never

pub none_read : (x : List ℕ) → None ≡ Some x → ⊥
none_read x e = cc e

pub some_read : (x y : List ℕ) → Some x ≡ Some y → x ≡ y
some_read x y e = cc e

-- ---- what stands behind each number of a name

abbrev pub behind_place : PartName → List ℕ
behind_place p = encode_lower p.front ++ codes ".hsl"

abbrev pub behind_log : PartName → List ℕ
behind_log p = decimal p.place ++ 45 ∷ behind_place p

abbrev pub behind_source : PartName → List ℕ
behind_source p = decimal p.log ++ 45 ∷ behind_log p

abbrev pub behind_replica : PartName → List ℕ
behind_replica p = decimal p.source ++ 45 ∷ behind_source p

pub begins_so : (text : List ℕ) (p : PartName) → text ≡ name_text p → text ≡ decimal p.replica ++ 45 ∷ behind_replica p
unfolding name_text
begins_so text p spelled = simp append_assoc at spelled

pub same_fields : (r r' s s' l l' p p' : ℕ) (f f' : List ℕ) → r ≡ r' → s ≡ s' → l ≡ l' → p ≡ p' → f ≡ f'
    → record { replica = r; source = s; log = l; place = p; front = f } ≡ (let n : PartName = record { replica = r'; source = s'; log = l'; place = p'; front = f' } in n)
same_fields r r' s s' l l' p p' f f' a b c d e = cc (a, b, c, d, e)
