-- A renewal and a file are read again from the body that spells them.
use Rattle.std.proofs.Common.{◌≡◌, ◌<◌, ◌≤◌, ◌+◌, ◌-◌, ◌∙◌, ℕ, List, ◌++◌, ap, arith, drop, length, refl, slice_range, sym}
use Rattle.std.proofs.lemmas.List.{length-append, length-drop, length-take-le}
use Rattle.std.proofs.lemmas.List.Folds.{drop_split}
use Rattle.byteorder.specs.Endian.{big_bytes}
use Rattle.base_wire.specs.Pieces.{AreBytes, number_at}
use Rattle.base_wire.proofs.Numbers.{behind, front, number_again, number_below, piece-number_at, taken}
use Rattle.signer_calls.specs.Pairs.{SpellsNoPair, SpellsPair}

-- the number that a body begins with is the length of the renewal
long_renewal : (body renewal file : List ℕ) → SpellsPair body renewal file → number_at 4 body 0 ≡ length renewal
long_renewal body renewal file spells =
    let fits = spells.fits in
    number_again 4 body 0 (length renewal) (omega (arith, fits))
    (front body 0 4 (big_bytes 4 (length renewal)) (renewal ++ file) spells.text refl)

behind_length : (body renewal file : List ℕ) → SpellsPair body renewal file → drop 4 body ≡ renewal ++ file
behind_length body renewal file spells = behind body 0 4 (big_bytes 4 (length renewal)) (renewal ++ file) spells.text refl

-- a body that is shorter than its length says spells no pair
pub too_short : (body : List ℕ) (n : ℕ) → n ≡ number_at 4 body 0 → length body - 4 < n → SpellsNoPair body
too_short body n read short renewal file spells =
    let long = read ∙ long_renewal body renewal file spells in
    let rest = ap (λ (l : List ℕ). length l) (behind_length body renewal file spells) in
    omega (arith, short, long, rest, length-drop 4 body, length-append renewal file)

-- any other spells what is cut out of it
pub pair_read : (body : List ℕ) (n : ℕ) → AreBytes body → n ≡ number_at 4 body 0 → 4 ≤ length body → n ≤ length body - 4
    → SpellsPair body (slice_range body 4 (4 + n)) (drop (4 + n) body)
pair_read body n fit read begun room =
    let low = number_below 4 body 0 fit in
    let long : length (slice_range body 4 (4 + n)) ≡ n =
    length-take-le (4 + n - 4) (drop 4 body) (omega (arith, begun, room, length-drop 4 body)) ∙ omega arith in
    let length_first = piece-number_at 4 body 0 fit (omega (arith, begun)) ∙ ap (λ (k : ℕ). big_bytes 4 k) (sym read ∙ sym long) in
    let text = taken body 0 4 _ _ length_first (drop_split body 4 (4 + n) (omega arith)) in
    record { fits = omega (arith, low, read, long); text = text }

-- a body spells one pair
pub one_pair : (body r f r' f' : List ℕ) → SpellsPair body r f → SpellsPair body r' f' → (r ≡ r') × (f ≡ f')
one_pair body r f r' f' a b =
    let long = sym (long_renewal body r f a) ∙ long_renewal body r' f' b in
    let both = sym (behind_length body r f a) ∙ behind_length body r' f' b in
    let first = sym (front (r ++ f) 0 (length r) r f refl refl) ∙ front (r ++ f) 0 (length r) r' f' both (sym long) in
    let second = sym (behind (r ++ f) 0 (length r) r f refl refl) ∙ behind (r ++ f) 0 (length r) r' f' both (sym long) in
    (first, second)
