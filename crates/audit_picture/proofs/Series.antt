-- One item more.
use Rattle.std.proofs.Common.{◌≡◌, ◌<◌, ◌≤◌, ◌+◌, ℕ, suc, List, [], ◌∷◌, ◌++◌, length, take, get_or, refl, sym, ap, ◌∙◌, subst, arith, add-one, append_assoc}
use Rattle.std.proofs.Math.Seq.{take-suc}
use Rattle.std.proofs.lemmas.List.{append-nil, length-take-le}
use Rattle.audit_picture.specs.Series.{Adds, AreOf}

pub are_more : {X : Type 0} (IsOf : ℕ → X → List ℕ → Type 0) (k : ℕ) (xs : List X) (x : X) (text next : List ℕ)
    → AreOf IsOf k xs text → IsOf (k + length xs) x next → AreOf IsOf k (xs ++ x ∷ []) (text ++ next)
are_more {X} IsOf k [] x text next are one =
    let place : k + 0 ≡ k = omega arith in
    let here : IsOf k x next = subst (λ (n : ℕ). IsOf n x next) place one in
    let texts : text ++ next ≡ next ++ [] = ap (λ (t : List ℕ). t ++ next) are ∙ sym (append-nil next) in
    (next, [], here, refl, texts)
are_more {X} IsOf k (y ∷ ys) x text next (t, t', first, rest, text_is) one =
    let place : k + suc (length ys) ≡ k + 1 + length ys = omega arith in
    let there : IsOf (k + 1 + length ys) x next = subst (λ (n : ℕ). IsOf n x next) place one in
    let longer = are_more IsOf (k + 1) ys x t' next rest there in
    let texts : text ++ next ≡ t ++ (t' ++ next) = ap (λ (u : List ℕ). u ++ next) text_is ∙ append_assoc t t' next in
    (t, t' ++ next, first, longer, texts)

-- what was added for the first items, and then for the next one
pub adds_more : {X : Type 0} (IsOf : ℕ → X → List ℕ → Type 0) (xs : List X) (k : ℕ) (d : X) (before text after : List ℕ)
    → k < length xs → Adds before text (AreOf IsOf 0 (take k xs)) → Adds text after (IsOf k (get_or xs k d))
    → Adds before after (AreOf IsOf 0 (take (k + 1) xs))
adds_more {X} IsOf xs k d before text after lt (t, are, text_is) (t', one, after_is) =
    let count : k ≡ 0 + length (take k xs) = let few : k ≤ length xs = omega arith in omega (arith, length-take-le k xs few) in
    let here : IsOf (0 + length (take k xs)) (get_or xs k d) t' = subst (λ (n : ℕ). IsOf n (get_or xs k d) t') count one in
    let longer = are_more IsOf 0 (take k xs) (get_or xs k d) t t' are here in
    let taken : take k xs ++ get_or xs k d ∷ [] ≡ take (k + 1) xs = rw add-one (sym (take-suc xs k d lt)) in
    let all : AreOf IsOf 0 (take (k + 1) xs) (t ++ t') = subst (λ (ys : List X). AreOf IsOf 0 ys (t ++ t')) taken longer in
    (t ++ t', all, after_is ∙ ap (λ (u : List ℕ). u ++ t') text_is ∙ append_assoc before t t')

-- three pieces, one behind the other
pub three_pieces : (old a b c t1 t2 t3 : List ℕ) → t1 ≡ old ++ a → t2 ≡ t1 ++ b → t3 ≡ t2 ++ c → t3 ≡ old ++ (a ++ b ++ c)
three_pieces old a b c t1 t2 t3 one two three =
    let joined : ((old ++ a) ++ b) ++ c ≡ old ++ (a ++ b ++ c) = simp append_assoc in
    let whole : t3 ≡ ((old ++ a) ++ b) ++ c = cc in
    whole ∙ joined

-- three more
pub six_pieces : (old a b c d e f t1 t2 t3 t4 t5 t6 : List ℕ) → t1 ≡ old ++ a → t2 ≡ t1 ++ b → t3 ≡ t2 ++ c → t4 ≡ t3 ++ d → t5 ≡ t4 ++ e
    → t6 ≡ t5 ++ f → t6 ≡ old ++ (a ++ b ++ c ++ d ++ e ++ f)
six_pieces old a b c d e f t1 t2 t3 t4 t5 t6 one two three four five six =
    let joined : (((((old ++ a) ++ b) ++ c) ++ d) ++ e) ++ f ≡ old ++ (a ++ b ++ c ++ d ++ e ++ f) = simp append_assoc in
    let whole : t6 ≡ (((((old ++ a) ++ b) ++ c) ++ d) ++ e) ++ f = cc in
    whole ∙ joined

-- one more
pub seven_pieces : (old a b c d e f g t1 t2 t3 t4 t5 t6 t7 : List ℕ) → t1 ≡ old ++ a → t2 ≡ t1 ++ b → t3 ≡ t2 ++ c → t4 ≡ t3 ++ d → t5 ≡ t4 ++ e
    → t6 ≡ t5 ++ f → t7 ≡ t6 ++ g → t7 ≡ old ++ (a ++ b ++ c ++ d ++ e ++ f ++ g)
seven_pieces old a b c d e f g t1 t2 t3 t4 t5 t6 t7 one two three four five six seven =
    let joined : ((((((old ++ a) ++ b) ++ c) ++ d) ++ e) ++ f) ++ g ≡ old ++ (a ++ b ++ c ++ d ++ e ++ f ++ g) = simp append_assoc in
    let whole : t7 ≡ ((((((old ++ a) ++ b) ++ c) ++ d) ++ e) ++ f) ++ g = cc in
    whole ∙ joined
