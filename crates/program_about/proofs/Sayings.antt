-- One row more is said.
use Rattle.std.proofs.Common.{◌≡◌, ◌≢◌, ◌∙◌, ◌++◌, ◌∷◌, [], ℕ, Bool, true, false, List, ap, sym}
use Rattle.std.specs.List.{flat_map}
use Rattle.std.proofs.lemmas.List.{append-nil, flat_map_more}
use Rattle.program_about.specs.Explaining.{AreSaid, IsSaid, Row, row_text}

not_none : (rows : List Row) (row : Row) → rows ++ (row ∷ []) ≢ []
not_none [] row none = let no : ⊥ = cc in no
not_none (r ∷ rows) row none = let no : ⊥ = cc in no

one_more : (old mid new : List ℕ) (rows : List Row) (row : Row) → mid ≡ old ++ flat_map row_text rows → new ≡ mid ++ row_text row → AreSaid old new true
one_more old mid new rows row is added =
    (rows ++ (row ∷ []), not_none rows row, added ∙ ap (λ (t : List ℕ). t ++ row_text row) is ∙ flat_map_more row_text old rows row)

pub said_more : (old mid new : List ℕ) (is_known : Bool) → AreSaid old mid is_known → IsSaid mid new true → AreSaid old new true
said_more old mid new true (rows, some, is) (programs, meaning, advice, added) =
    one_more old mid new rows (record { programs = programs; meaning = meaning; advice = advice }) is added
said_more old mid new false is (programs, meaning, advice, added) =
    one_more old mid new [] (record { programs = programs; meaning = meaning; advice = advice }) (is ∙ sym (append-nil old)) added

pub said_no_more : (old mid new : List ℕ) (is_known : Bool) → AreSaid old mid is_known → IsSaid mid new false → AreSaid old new is_known
said_no_more old mid new true (rows, some, is) same = (rows, some, same ∙ is)
said_no_more old mid new false is same = same ∙ is
