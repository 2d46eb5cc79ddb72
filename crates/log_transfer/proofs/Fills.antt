-- A buffer that is filled piece by piece.
use Rattle.std.proofs.Common.{◌≡◌, ℕ, suc, ◌+◌, ◌≤◌, List, [], ◌∷◌, ◌++◌, length, take, sym, ap, subst, ◌∙◌, arith, append_assoc}
use Rattle.std.proofs.lemmas.List.{take-append-le, length-take}
use borrow.Rule.Slice.PartMut.{put_mid, post_of}
use Rattle.log_transfer.specs.Connections.{Connection, behind}
use Rattle.log_transfer.specs.Streams.{GaveAll}

-- taken past a front
take-append-add : (xs ys : List ℕ) (n : ℕ) → take (length xs + n) (xs ++ ys) ≡ xs ++ take n ys
take-append-add [] ys n = let none : 0 + n ≡ n = omega arith in ap (λ (m : ℕ). take m ys) none
take-append-add (x ∷ xs) ys n =
    let more : suc (length xs) + n ≡ suc (length xs + n) = omega arith in
    ap (λ (m : ℕ). take m (x ∷ (xs ++ ys))) more ∙ ap (λ (l : List ℕ). x ∷ l) (take-append-add xs ys n)

pub take_filled : (a n k : ℕ) (xs ys : List ℕ) → a ≤ length xs → n ≤ length ys → take (a + n) (put_mid a k xs ys) ≡ take a xs ++ take n ys
take_filled a n k xs ys le fits =
    let size : length (take a xs) ≡ a = omega (arith, length-take a xs) in
    ap (λ (m : ℕ). take (m + n) (put_mid a k xs ys)) (sym size)
    ∙ take-append-add (take a xs) (ys ++ post_of a k xs) n
    ∙ ap (λ (t : List ℕ). take a xs ++ t) (take-append-le n ys (post_of a k xs) fits)

pub gave_more : (old mid new : Connection → Type 0) (first second both : List ℕ) → both ≡ first ++ second → GaveAll old mid first → GaveAll mid new second → GaveAll old new both
gave_more old mid new first second both is a b c may =
    subst (λ (t : List ℕ). old (record { text = t; fails = c.fails }))
    (sym (append_assoc first second c.text) ∙ ap (λ (t : List ℕ). t ++ c.text) (sym is)) (a (behind second c) (b c may))
