-- One item more: of the lines of a committee and of next keys, of what is shown of a list.
use Rattle.std.proofs.Common.{◌≡◌, ◌≤◌, ℕ, suc, Result, Ok, Err, OnOk, ◌+◌, ◌<◌, List, [], ◌∷◌, ◌++◌, length, take, get_or, refl, sym, ap, ◌∙◌, subst, arith, add-one, append_assoc, codes, lit≤}
use Rattle.std.proofs.Math.Seq.{take-suc}
use Rattle.std.proofs.lemmas.List.{append-nil, length-take-le, take-take}
use Rattle.hex.specs.Hex.{encode_lower}
use Rattle.handover_keys.specs.NextKeys.{key_id_in, root_in}
use Rattle.program_show.specs.EndorsementLines.{next_key_line, next_key_lines}
use Rattle.program_show.specs.Lines.{lines_of_replica, replica_lines, seed_line}
use Rattle.program_show.specs.Series.{AddsText, AreOf}
use Rattle.program_show.specs.declared.mark.Mark.{Mark}

pub replicas_more : (committee : List ℕ) (r : ℕ) → replica_lines committee (r + 1) ≡ replica_lines committee r ++ lines_of_replica committee r
replicas_more committee r = rw add-one refl

pub next_keys_more : (statement : List ℕ) (k : ℕ)
    → next_key_lines statement (k + 1) ≡ next_key_lines statement k ++ next_key_line k (key_id_in statement k) (root_in statement k)
next_keys_more statement k = rw add-one refl

-- one item more behind those of a list
pub are_more : {X : Type 0} (IsOf : ℕ → X → List ℕ → List Mark → Type 0) (k : ℕ) (xs : List X) (x : X) (text next : List ℕ) (marks more : List Mark)
    → AreOf IsOf k xs text marks → IsOf (k + length xs) x next more
    → AreOf IsOf k (xs ++ x ∷ []) (text ++ next) (marks ++ more)
are_more {X} IsOf k [] x text next marks more are one =
    let place : k + 0 ≡ k = omega arith in
    let here : IsOf k x next more = subst (λ (n : ℕ). IsOf n x next more) place one in
    let texts : text ++ next ≡ next ++ [] = ap (λ (t : List ℕ). t ++ next) are.0 ∙ sym (append-nil next) in
    let seen : marks ++ more ≡ more ++ [] = ap (λ (m : List Mark). m ++ more) are.1 ∙ sym (append-nil more) in
    (next, more, [], [], here, (refl, refl), texts, seen)
are_more {X} IsOf k (y ∷ ys) x text next marks more (t, m, t', m', first, rest, text_is, marks_are) one =
    let place : k + suc (length ys) ≡ k + 1 + length ys = omega arith in
    let there : IsOf (k + 1 + length ys) x next more = subst (λ (n : ℕ). IsOf n x next more) place one in
    let longer = are_more IsOf (k + 1) ys x t' next m' more rest there in
    let texts : text ++ next ≡ t ++ (t' ++ next) = ap (λ (u : List ℕ). u ++ next) text_is ∙ append_assoc t t' next in
    let seen : marks ++ more ≡ m ++ (m' ++ more) = ap (λ (u : List Mark). u ++ more) marks_are ∙ append_assoc m m' more in
    (t, m, t' ++ next, m' ++ more, first, longer, texts, seen)

-- three pieces, one behind the other
pub three_pieces : (old a b c t1 t2 t3 : List ℕ) → t1 ≡ old ++ a → t2 ≡ t1 ++ b → t3 ≡ t2 ++ c → t3 ≡ old ++ (a ++ b ++ c)
three_pieces old a b c t1 t2 t3 one two three =
    let joined : ((old ++ a) ++ b) ++ c ≡ old ++ (a ++ b ++ c) = simp append_assoc in
    let whole : t3 ≡ ((old ++ a) ++ b) ++ c = cc in
    whole ∙ joined

-- two more
pub five_pieces : (old a b c d e t1 t2 t3 t4 t5 : List ℕ) → t1 ≡ old ++ a → t2 ≡ t1 ++ b → t3 ≡ t2 ++ c → t4 ≡ t3 ++ d → t5 ≡ t4 ++ e
    → t5 ≡ old ++ (a ++ b ++ c ++ d ++ e)
five_pieces old a b c d e t1 t2 t3 t4 t5 one two three four five =
    let joined : ((((old ++ a) ++ b) ++ c) ++ d) ++ e ≡ old ++ (a ++ b ++ c ++ d ++ e) = simp append_assoc in
    let whole : t5 ≡ ((((old ++ a) ++ b) ++ c) ++ d) ++ e = cc in
    whole ∙ joined

-- and two more
pub seven_pieces : (old a b c d e f g t1 t2 t3 t4 t5 t6 t7 : List ℕ) → t1 ≡ old ++ a → t2 ≡ t1 ++ b → t3 ≡ t2 ++ c → t4 ≡ t3 ++ d → t5 ≡ t4 ++ e
    → t6 ≡ t5 ++ f → t7 ≡ t6 ++ g → t7 ≡ old ++ (a ++ b ++ c ++ d ++ e ++ f ++ g)
seven_pieces old a b c d e f g t1 t2 t3 t4 t5 t6 t7 one two three four five six seven =
    let joined : ((((((old ++ a) ++ b) ++ c) ++ d) ++ e) ++ f) ++ g ≡ old ++ (a ++ b ++ c ++ d ++ e ++ f ++ g) = simp append_assoc in
    let whole : t7 ≡ ((((((old ++ a) ++ b) ++ c) ++ d) ++ e) ++ f) ++ g = cc in
    whole ∙ joined

pub on_ok : {T E : Type 0} (r : Result T E) (P Q : Type 0) → OnOk r P → (P → Q) → OnOk r Q
on_ok (Ok x) P Q h by = by h
on_ok (Err e) P Q h by = tt

-- what was shown of the first items, and then of the next one
pub adds_more : {X : Type 0} (IsOf : ℕ → X → List ℕ → List Mark → Type 0) (xs : List X) (k : ℕ) (d : X) (before text after : List ℕ) (marks_before marks marks_after : List Mark)
    → k < length xs → AddsText before text marks_before marks (AreOf IsOf 0 (take k xs)) → AddsText text after marks marks_after (IsOf k (get_or xs k d))
    → AddsText before after marks_before marks_after (AreOf IsOf 0 (take (k + 1) xs))
adds_more {X} IsOf xs k d before text after marks_before marks marks_after lt (t, m, are, text_is, marks_are) (t', m', one, after_is, marks_after_is) =
    let count : k ≡ 0 + length (take k xs) = let few : k ≤ length xs = omega arith in omega (arith, length-take-le k xs few) in
    let here : IsOf (0 + length (take k xs)) (get_or xs k d) t' m' = subst (λ (n : ℕ). IsOf n (get_or xs k d) t' m') count one in
    let longer = are_more IsOf 0 (take k xs) (get_or xs k d) t t' m m' are here in
    let taken : take k xs ++ get_or xs k d ∷ [] ≡ take (k + 1) xs = rw add-one (sym (take-suc xs k d lt)) in
    let all : AreOf IsOf 0 (take (k + 1) xs) (t ++ t') (m ++ m') = subst (λ (ys : List X). AreOf IsOf 0 ys (t ++ t') (m ++ m')) taken longer in
    let texts : after ≡ before ++ (t ++ t') = after_is ∙ ap (λ (u : List ℕ). u ++ t') text_is ∙ append_assoc before t t' in
    let seen : marks_after ≡ marks_before ++ (m ++ m') = marks_after_is ∙ ap (λ (u : List Mark). u ++ m') marks_are ∙ append_assoc marks_before m m' in
    (t ++ t', m ++ m', all, texts, seen)

-- nothing was shown yet
pub adds_none : {X : Type 0} (IsOf : ℕ → X → List ℕ → List Mark → Type 0) (text : List ℕ) (marks : List Mark) → AddsText text text marks marks (AreOf IsOf 0 [])
adds_none {X} IsOf text marks = ([], [], (refl, refl), sym (append-nil text), sym (append-nil marks))

pub both_ok : {T E : Type 0} (r : Result T E) (P Q R : Type 0) → OnOk r P → OnOk r Q → (P → Q → R) → OnOk r R
both_ok (Ok x) P Q R p q by = by p q
both_ok (Err e) P Q R p q by = tt

-- the line of a seed is that of its first 16 bytes
pub seed_of_front : (bytes : List ℕ) → seed_line bytes ≡ seed_line (take 16 bytes)
unfolding seed_line
seed_of_front bytes = ap (λ (id : List ℕ). codes "seed key " ++ encode_lower id ++ codes "\n") (sym (take-take 16 16 bytes (lit≤ tt)))
