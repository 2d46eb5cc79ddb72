-- The bytes of frames and of end marks, as they are read.
use Rattle.std.proofs.Common.{◌≡◌, ℕ, ◌+◌, ◌^◌, ◌<◌, ◌≤◌, List, ◌++◌, length, take, drop, refl, sym, ap, subst, ◌∙◌, arith}
use Rattle.std.proofs.lemmas.List.{take_at, drop_at, get_or-drop, length-append, take-append-le, take-append-drop, drop-append-le}
use Rattle.byteorder.specs.Endian.{big_bytes}
use Rattle.base_wire.specs.Pieces.{piece, number_at, AreBytes}
use Rattle.base_wire.proofs.Numbers.{cut, length-piece, piece-number_at, number_again}
use Rattle.base_wire.specs.Payloads.{IsPayload}
use Rattle.log_format.specs.Exports.{frame_text, end_mark}
use Rattle.log_format.specs.Readings.{HasLength, HasEndMark}

-- ---- a frame

-- the number in front of a text that begins with the bytes of n
number_first : (n : ℕ) (rest : List ℕ) → n < 2 ^ 32 → number_at 4 (big_bytes 4 n ++ rest) 0 ≡ n
number_first n rest small = number_again 4 (big_bytes 4 n ++ rest) 0 n small refl

pub frame_number : (payload rest : List ℕ) → length payload ≤ 65536 → number_at 4 (frame_text payload ++ rest) 0 ≡ length payload
unfolding frame_text
frame_number payload rest fits = number_first (length payload) (payload ++ rest) (omega (arith, fits))

pub length-frame_text : (payload : List ℕ) → length (frame_text payload) ≡ 4 + length payload
unfolding frame_text
length-frame_text payload = omega (arith, length-append (big_bytes 4 (length payload)) payload)

-- a text that begins with a frame begins with its length
pub frame_has_length : (text payload rest : List ℕ) → IsPayload payload → text ≡ frame_text payload ++ rest → HasLength text
frame_has_length text payload rest is split =
    let number : number_at 4 text 0 ≡ length payload = ap (λ (t : List ℕ). number_at 4 t 0) split ∙ frame_number payload rest is.1 in
    record {
      came = omega (arith, ap length split, length-append (frame_text payload) rest, length-frame_text payload);
      some = omega (arith, number, is.0);
      fits = omega (arith, number, is.1);
    }

-- .. and is no shorter than the frame
pub frame_fits : (text payload rest : List ℕ) → IsPayload payload → text ≡ frame_text payload ++ rest → 4 + number_at 4 text 0 ≤ length text
frame_fits text payload rest is split =
    let number : number_at 4 text 0 ≡ length payload = ap (λ (t : List ℕ). number_at 4 t 0) split ∙ frame_number payload rest is.1 in
    omega (arith, number, ap length split, length-append (frame_text payload) rest, length-frame_text payload)

-- a text begins with one frame
pub one_frame : (x y xs ys : List ℕ) → IsPayload x → IsPayload y → frame_text x ++ xs ≡ frame_text y ++ ys → (x ≡ y) × (xs ≡ ys)
unfolding frame_text
one_frame x y xs ys is_x is_y same =
    let long : length x ≡ length y =
    sym (frame_number x xs is_x.1) ∙ ap (λ (t : List ℕ). number_at 4 t 0) same ∙ frame_number y ys is_y.1 in
    let behind : x ++ xs ≡ y ++ ys = ap (λ (t : List ℕ). drop 4 t) same in (
      sym (take_at x xs (length x) refl) ∙ ap (λ (t : List ℕ). take (length x) t) behind ∙ take_at y ys (length x) (sym long),
      sym (drop_at x xs (length x) refl) ∙ ap (λ (t : List ℕ). drop (length x) t) behind ∙ drop_at y ys (length x) (sym long),
    )

-- where as many bytes stand behind a length as it names, a frame stands there
pub frame_found : (text : List ℕ) (n : ℕ) → AreBytes text → 4 + n ≤ length text → number_at 4 text 0 ≡ n
    → text ≡ frame_text (take n (drop 4 text)) ++ drop (4 + n) text
unfolding frame_text
frame_found text n fit long number =
    let payload = take n (drop 4 text) in
    let size : piece 4 text 0 ≡ big_bytes 4 (length payload) =
    piece-number_at 4 text 0 fit (omega (arith, long)) ∙ ap (λ (m : ℕ). big_bytes 4 m) (number ∙ sym (length-piece n text 4 long)) in
    cut text 0 4 ∙ ap (λ (t : List ℕ). t ++ drop 4 text) size
    ∙ ap (λ (t : List ℕ). big_bytes 4 (length payload) ++ t) (cut text 4 n)

pub AreBytes-drop : (n : ℕ) (text : List ℕ) → AreBytes text → AreBytes (drop n text)
AreBytes-drop n text fit i = subst (λ (b : ℕ). b < 256) (sym (get_or-drop n text i 0)) (fit (n + i))

-- ---- an end mark

pub end_mark_named : (count : ℕ) → count < 2 ^ 32 → HasEndMark (end_mark count) count
unfolding end_mark
end_mark_named count small = record {
  came = omega arith;
  none = number_first 0 (big_bytes 4 count) (omega arith);
  named = number_again 4 (end_mark count) 4 count small refl;
}

pub length-end_mark : (count : ℕ) → length (end_mark count) ≡ 8
unfolding end_mark
length-end_mark count = refl

-- ---- what came of a text

-- the number in front of what came is that of the text
pub number_of_front : (text came lost : List ℕ) → text ≡ came ++ lost → 4 ≤ length came → number_at 4 came 0 ≡ number_at 4 text 0
unfolding number_at
number_of_front text came lost split long =
    let front : piece 4 came 0 ≡ piece 4 text 0 = sym (take-append-le 4 came lost long) ∙ ap (λ (t : List ℕ). take 4 t) (sym split) in
    rw front refl

-- a front piece that came whole
pub piece_came : (piece rest came lost : List ℕ) → piece ++ rest ≡ came ++ lost → length piece ≤ length came
    → (came ≡ piece ++ drop (length piece) came) × (rest ≡ drop (length piece) came ++ lost)
piece_came piece rest came lost split long =
    let n = length piece in
    let front : piece ≡ take n came =
    sym (take_at piece rest n refl) ∙ ap (λ (t : List ℕ). take n t) split ∙ take-append-le n came lost long in (
      sym (take-append-drop n came) ∙ ap (λ (t : List ℕ). t ++ drop n came) (sym front),
      sym (drop_at piece rest n refl) ∙ ap (λ (t : List ℕ). drop n t) split ∙ drop-append-le n came lost long,
    )
