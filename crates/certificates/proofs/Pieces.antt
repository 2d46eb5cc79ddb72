-- Pieces of a text that stand in a row.
use Rattle.std.proofs.Common.{◌≡◌, ℕ, ◌+◌, ◌<◌, List, [], ◌∷◌, ◌++◌, length, take, drop, sym, ap, ◌∙◌, arith, drop-drop}
use Rattle.std.specs.Prelude.{slice_index}
use Rattle.std.proofs.lemmas.List.{drop_more, get_or-drop}
use Rattle.std.proofs.Math.Seq.{take-add}
use Rattle.base_wire.specs.Pieces.{piece}

pub two_pieces : (bytes : List ℕ) (at m n : ℕ) → piece m bytes at ++ piece n bytes (at + m) ≡ piece (m + n) bytes at
two_pieces bytes at m n = ap (λ (r : List ℕ). piece m bytes at ++ take n r) (sym (drop-drop m at bytes)) ∙ sym (take-add m n (drop at bytes))

pub one_byte : (bytes : List ℕ) (at : ℕ) → at < length bytes → piece 1 bytes at ≡ slice_index bytes at ∷ []
one_byte bytes at below = ap (take 1) (drop_more bytes at 0 below)

-- a byte and the n bytes behind it
pub byte_and_piece : (bytes : List ℕ) (at n : ℕ) → at < length bytes → slice_index bytes at ∷ piece n bytes (at + 1) ≡ piece (1 + n) bytes at
byte_and_piece bytes at n below =
    ap (λ (b : List ℕ). b ++ piece n bytes (at + 1)) (sym (one_byte bytes at below)) ∙ two_pieces bytes at 1 n

-- where a text goes on with a byte, that byte is read there
pub byte_again : (text : List ℕ) (at x : ℕ) (rest : List ℕ) → drop at text ≡ x ∷ rest → slice_index text at ≡ x
byte_again text at x rest here =
    let place : at ≡ at + 0 = omega arith in
    ap (slice_index text) place ∙ sym (get_or-drop at text 0 0) ∙ ap (λ (t : List ℕ). slice_index t 0) here
