-- One piece more.
use Rattle.std.proofs.Common.{◌≡◌, ℕ, ◌+◌, ◌<◌, List, [], ◌∷◌, ◌++◌, length, take, get_or, sym, ap, ◌∙◌, add-one, append_assoc}
use Rattle.std.proofs.Math.Seq.{take-suc}
use Rattle.std.proofs.lemmas.List.{append-nil}
use Rattle.std.proofs.lemmas.List.Concat.{flat_map-append}
use Rattle.std.specs.List.{flat_map}

-- where the text so far is what stood before and some pieces, one more piece adds to them
joined : (before out next pieces piece : List ℕ) → out ≡ before ++ pieces → next ≡ out ++ piece → next ≡ before ++ (pieces ++ piece)
joined before out next pieces piece so_far here = here ∙ ap (λ (o : List ℕ). o ++ piece) so_far ∙ append_assoc before pieces piece

pieces_more : {X : Type 0} (piece : X → List ℕ) (xs : List X) (k : ℕ) (d : X) → k < length xs → flat_map piece (take (k + 1) xs) ≡ flat_map piece (take k xs) ++ piece (get_or xs k d)
pieces_more {X} piece xs k d lt =
    rw (add-one, take-suc xs k d lt) (flat_map-append piece (take k xs) (get_or xs k d ∷ [])
    ∙ ap (λ (t : List ℕ). flat_map piece (take k xs) ++ t) (append-nil (piece (get_or xs k d))))

pub put_more : {X : Type 0} (piece : X → List ℕ) (before out next : List ℕ) (xs : List X) (k : ℕ) (d : X) → k < length xs
    → out ≡ before ++ flat_map piece (take k xs) → next ≡ out ++ piece (get_or xs k d)
    → next ≡ before ++ flat_map piece (take (k + 1) xs)
put_more {X} piece before out next xs k d lt so_far here =
    joined before out next (flat_map piece (take k xs)) (piece (get_or xs k d)) so_far here
    ∙ ap (λ (t : List ℕ). before ++ t) (sym (pieces_more piece xs k d lt))
