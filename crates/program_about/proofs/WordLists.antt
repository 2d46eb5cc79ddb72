-- Words one by one.
use Rattle.std.proofs.Common.{◌≡◌, ◌≢◌, ◌↔◌, ◌-◌, ◌<◌, ◌≤◌, ℕ, Result, Ok, Err, IfOk, List, [], ◌∷◌, String, drop, get_or, length, string_bytes, take, sym, ap, ◌∙◌, arith}
use Rattle.std.proofs.lemmas.List.{take_all}
use Rattle.std.specs.declared.alloc.Global.{Global}
use Rattle.program_help.specs.Helps.{texts}
use Rattle.program_about.specs.LineageSheets.{AreOptions, AskForLineageSheet}

pub four_words : (words : List (String Global)) (a b c d : String Global) → length words ≡ 4
    → a ≡ get_or words 0 a → b ≡ get_or words 1 b → c ≡ get_or words 2 c → d ≡ get_or words 3 d
    → texts words ≡ string_bytes a ∷ string_bytes b ∷ string_bytes c ∷ string_bytes d ∷ []
four_words [] a b c d four e f g h = absurd (omega arith)
four_words (x ∷ []) a b c d four e f g h = absurd (omega arith)
four_words (x ∷ y ∷ []) a b c d four e f g h = absurd (omega arith)
four_words (x ∷ y ∷ z ∷ []) a b c d four e f g h = absurd (omega arith)
four_words (x ∷ y ∷ z ∷ w ∷ []) a b c d four e f g h =
    ap (λ (t : String Global). string_bytes t ∷ string_bytes y ∷ string_bytes z ∷ string_bytes w ∷ []) (sym e)
    ∙ ap (λ (t : String Global). string_bytes a ∷ string_bytes t ∷ string_bytes z ∷ string_bytes w ∷ []) (sym f)
    ∙ ap (λ (t : String Global). string_bytes a ∷ string_bytes b ∷ string_bytes t ∷ string_bytes w ∷ []) (sym g)
    ∙ ap (λ (t : String Global). string_bytes a ∷ string_bytes b ∷ string_bytes c ∷ string_bytes t ∷ []) (sym h)
four_words (x ∷ y ∷ z ∷ w ∷ v ∷ more) a b c d four e f g h = absurd (omega arith)

-- the first, the third and the fifth of six words are the options
pub six_words : (words : List (String Global)) (a b c : String Global) → length words ≡ 6
    → a ≡ get_or words 0 a → b ≡ get_or words 2 b → c ≡ get_or words 4 c
    → AskForLineageSheet words ↔ AreOptions a b c
six_words [] a b c six e f g = absurd (omega arith)
six_words (x ∷ []) a b c six e f g = absurd (omega arith)
six_words (x ∷ y ∷ []) a b c six e f g = absurd (omega arith)
six_words (x ∷ y ∷ z ∷ []) a b c six e f g = absurd (omega arith)
six_words (x ∷ y ∷ z ∷ w ∷ []) a b c six e f g = absurd (omega arith)
six_words (x ∷ y ∷ z ∷ w ∷ v ∷ []) a b c six e f g = absurd (omega arith)
six_words (x ∷ y ∷ z ∷ w ∷ v ∷ u ∷ []) a b c six e f g =
    let first : string_bytes a ≡ string_bytes x = ap (λ (t : String Global). string_bytes t) e in
    let third : string_bytes b ≡ string_bytes z = ap (λ (t : String Global). string_bytes t) f in
    let fifth : string_bytes c ≡ string_bytes v = ap (λ (t : String Global). string_bytes t) g in
    (λ h. (first ∙ h.0, third ∙ h.1, fifth ∙ h.2), λ h. (sym first ∙ h.0, sym third ∙ h.1, sym fifth ∙ h.2))
six_words (x ∷ y ∷ z ∷ w ∷ v ∷ u ∷ t ∷ more) a b c six e f g = absurd (omega arith)

pub first_word : (words : List (String Global)) (a : String Global) → 1 ≤ length words → a ≡ get_or words 0 a
    → texts words ≡ string_bytes a ∷ texts (take (length words - 1) (drop 1 words))
first_word [] a some is = absurd (omega arith)
first_word (x ∷ more) a some is =
    let count : length (x ∷ more) - 1 ≡ length more = omega arith in
    let rest : take (length (x ∷ more) - 1) more ≡ more = ap (λ (n : ℕ). take n more) count ∙ take_all (length more) more (omega arith) in
    ap (λ (w : String Global). string_bytes w ∷ texts more) (sym is) ∙ ap (λ (ws : List (String Global)). string_bytes a ∷ texts ws) (sym rest)

-- where there are words there are texts
pub some_texts : (words : List (String Global)) → 0 < length words → texts words ≢ []
some_texts [] some none = omega arith
some_texts (x ∷ more) some none = let no : ⊥ = cc in no

pub if_both : {T E : Type 0} (r : Result T E) (P Q R : T → Type 0) → IfOk r P → IfOk r Q → ((t : T) → P t → Q t → R t) → IfOk r R
if_both (Ok t) P Q R p q by = by t p q
if_both (Err e) P Q R p q by = tt
