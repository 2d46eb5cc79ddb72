-- A number that is read from its bytes, and the bytes of a number that was read.
use Rattle.std.proofs.Common.{◌≡◌, ℕ, zero, suc, ◌+◌, ◌*◌, ◌/◌, ◌%◌, ◌^◌, ◌<◌, ◌≤◌, List, [], ◌∷◌, ◌++◌, refl, sym, ap, ◌∙◌, arith, length, take, drop, inl, inr}
use Rattle.std.proofs.lemmas.Bool.{cases_lt}
use Rattle.std.proofs.lemmas.List.{append-nil, drop-drop, drop_at, get_or-drop, get_or-take, get_or_past, length-drop, length-take, length-take-le, take-append-drop, take_all, take_at}
use Rattle.std.proofs.lemmas.Nat.{div-mul-add}
use Rattle.std.proofs.Math.Nat.{div-one, mod-eq_of_lt, mul-add-div_right, mul-add-mod_self_right, mul_assoc, one-le-pow, pow-succ'}
use Rattle.std.specs.Int.{byte_at}
use Rattle.byteorder.specs.Endian.{big_bytes, big_number}
use Rattle.byteorder.specs.Numbers.{big_from-cons, big_from-lt, big_number-reads_back}
use Rattle.base_wire.specs.Pieces.{piece, number_at, AreBytes}

-- ---- the bytes of a number

byte_at-pow : (n x : ℕ) → byte_at n x ≡ x / 256 ^ n % 256
byte_at-pow zero x = ap (λ (y : ℕ). y % 256) (sym (div-one x))
byte_at-pow (suc n) x = refl

pow_positive : (n : ℕ) → 0 < 256 ^ n
pow_positive n = let one = one-le-pow n 256 (omega arith) in omega arith

-- what stands above the lowest n bytes does not change them
bytes-above : (n a x : ℕ) → big_bytes n (a * 256 ^ n + x) ≡ big_bytes n x
bytes-above zero a x = refl
bytes-above (suc n) a x =
    let scaled : a * 256 ^ suc n ≡ a * 256 * 256 ^ n = ap (λ (p : ℕ). a * p) (pow-succ' 256 n) ∙ sym (mul_assoc a 256 (256 ^ n)) in
    let top : byte_at n (a * 256 * 256 ^ n + x) ≡ byte_at n x =
    byte_at-pow n _ ∙ ap (λ (y : ℕ). y % 256) (mul-add-div_right (pow_positive n) (a * 256) x)
    ∙ mul-add-mod_self_right a 256 (x / 256 ^ n) ∙ sym (byte_at-pow n x) in
    rw (scaled, top, bytes-above n (a * 256) x) refl

-- bytes are those of the number that they spell
pub bytes_of_number : (n : ℕ) (xs : List ℕ) → AreBytes xs → length xs ≡ n → big_bytes n (big_number n xs) ≡ xs
bytes_of_number zero [] fit long = refl
bytes_of_number zero (x ∷ xs) fit long = absurd (omega arith)
bytes_of_number (suc n) [] fit long = absurd (omega arith)
bytes_of_number (suc n) (x ∷ xs) fit long =
    let rest_fit : AreBytes xs = λ i. fit (suc i) in
    let shift = big_from-cons 0 n x xs in
    let small : big_number n xs < 256 ^ n = big_from-lt 0 n xs rest_fit in
    let byte : x < 256 = fit 0 in
    let top : byte_at n (x * 256 ^ n + big_number n xs) ≡ x =
    byte_at-pow n _ ∙ ap (λ (y : ℕ). y % 256) (div-mul-add x (256 ^ n) (big_number n xs) small) ∙ mod-eq_of_lt byte in
    let rest : big_bytes n (x * 256 ^ n + big_number n xs) ≡ xs =
    bytes-above n x (big_number n xs) ∙ bytes_of_number n xs rest_fit (omega arith) in
    rw (shift, top, rest) refl

-- ---- pieces

pub AreBytes-piece : (n : ℕ) (bytes : List ℕ) (at : ℕ) → AreBytes bytes → AreBytes (piece n bytes at)
AreBytes-piece n bytes at fit i =
    elim (cases_lt i n) [
      | inl below ↦ rw (get_or-take n (drop at bytes) i 0 below, get_or-drop at bytes i 0) (fit (at + i))
      | inr past ↦ rw (get_or_past (take n (drop at bytes)) i 0 (omega (arith, length-take n (drop at bytes)))) (omega arith)
    ]

pub length-piece : (n : ℕ) (bytes : List ℕ) (at : ℕ) → at + n ≤ length bytes → length (piece n bytes at) ≡ n
length-piece n bytes at room = length-take-le n (drop at bytes) (omega (arith, length-drop at bytes))

-- the number that is read at a place stands there
pub piece-number_at : (n : ℕ) (bytes : List ℕ) (at : ℕ) → AreBytes bytes → at + n ≤ length bytes
    → piece n bytes at ≡ big_bytes n (number_at n bytes at)
unfolding number_at
piece-number_at n bytes at fit room =
    sym (bytes_of_number n (piece n bytes at) (AreBytes-piece n bytes at fit) (length-piece n bytes at room))

-- where the bytes of x stand, x is read
pub number_again : (n : ℕ) (bytes : List ℕ) (at x : ℕ) → x < 256 ^ n → piece n bytes at ≡ big_bytes n x → number_at n bytes at ≡ x
unfolding number_at
number_again n bytes at x fits is =
    ap (λ (b : List ℕ). big_number n b) (is ∙ sym (append-nil (big_bytes n x))) ∙ big_number-reads_back n x [] fits

-- a number of n bytes
pub number_below : (n : ℕ) (bytes : List ℕ) (at : ℕ) → AreBytes bytes → number_at n bytes at < 256 ^ n
unfolding number_at
number_below n bytes at fit = big_from-lt 0 n (piece n bytes at) (AreBytes-piece n bytes at fit)

-- ---- a text, field by field

-- a text is its first piece and the rest
pub cut : (bytes : List ℕ) (at n : ℕ) → drop at bytes ≡ piece n bytes at ++ drop (at + n) bytes
cut bytes at n = sym (take-append-drop n (drop at bytes)) ∙ ap (λ (ys : List ℕ). piece n bytes at ++ ys) (drop-drop n at bytes)

-- the last piece is the rest
pub cut_last : (bytes : List ℕ) (at n : ℕ) → length bytes ≡ at + n → drop at bytes ≡ piece n bytes at
cut_last bytes at n long = sym (take_all n (drop at bytes) (omega (arith, length-drop at bytes)))

-- a piece that is known, and what is known of the rest
pub taken : (bytes : List ℕ) (at n : ℕ) (first rest : List ℕ) → piece n bytes at ≡ first → drop (at + n) bytes ≡ rest
    → drop at bytes ≡ first ++ rest
taken bytes at n first rest e f = cut bytes at n ∙ rw (e, f) refl

-- where a text goes on with a, a is the piece there
pub front : (text : List ℕ) (at n : ℕ) (a rest : List ℕ) → drop at text ≡ a ++ rest → length a ≡ n → piece n text at ≡ a
front text at n a rest here long = ap (λ (t : List ℕ). take n t) here ∙ take_at a rest n long

-- and what follows a stands behind it
pub behind : (text : List ℕ) (at n : ℕ) (a rest : List ℕ) → drop at text ≡ a ++ rest → length a ≡ n → drop (at + n) text ≡ rest
behind text at n a rest here long = sym (drop-drop n at text) ∙ ap (λ (t : List ℕ). drop n t) here ∙ drop_at a rest n long

-- a list that is filled to its end
pub filled : (n : ℕ) (xs ys : List ℕ) → length xs ≤ n → take n xs ≡ ys → xs ≡ ys
filled n xs ys h e = sym (take_all n xs h) ∙ e
