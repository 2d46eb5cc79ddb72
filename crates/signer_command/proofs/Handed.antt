-- What goes out of a piece of a step.
use Rattle.std.proofs.Common.{◌≡◌, ◌≤◌, ◌<◌, ◌+◌, ◌-◌, ◌++◌, ℕ, List, Option, Some, None, IfSome, arith, drop, length, min, refl, subst, sym, take}
use Rattle.std.proofs.lemmas.List.{drop-append-le, drop-take, length-append, length-drop, length-take, take-take}
use Rattle.std.proofs.Math.Seq.{drop-append-add, take-append_seam, take-length}
use Rattle.byteorder.specs.Endian.{big_bytes}
use Rattle.signer_command.specs.Steps.{IsNextPart, step_reply}

-- what is left of the front of a text
rest_of_front : (front text : List ℕ) (sent : ℕ) → sent < length front → IsNextPart (front ++ text) sent (length front) (Some (drop sent front))
rest_of_front front text sent below =
    let few : length (drop sent front) ≡ length front - sent = length-drop sent front in
    let cut : drop sent (front ++ text) ≡ drop sent front ++ text = drop-append-le sent front text (omega arith) in
    (omega arith, rw (cut, take-append_seam (drop sent front) text) refl, omega arith)

-- a share of the text behind it
share_of_text : (front file : List ℕ) (most at n : ℕ) → 0 < n → at + n ≤ min most (length file)
    → IsNextPart (front ++ take most file) (length front + at) (length front + at + n) (Some (take n (drop at file)))
share_of_text front file most at n some within =
    let as_many : length (take n (drop at file)) ≡ min n (length (drop at file)) = length-take n (drop at file) in
    let left : length (drop at file) ≡ length file - at = length-drop at file in
    let is_n : length (take n (drop at file)) ≡ n = omega arith in
    let behind : drop (length front + at) (front ++ take most file) ≡ drop at (take most file) = drop-append-add front (take most file) at in
    let whole : at + (most - at) ≡ most = omega arith in
    let cut : drop at (take (at + (most - at)) file) ≡ take (most - at) (drop at file) = drop-take at (most - at) file in
    let cut_most : drop at (take most file) ≡ take (most - at) (drop at file) =
    subst (λ (m : ℕ). drop at (take m file) ≡ take (most - at) (drop at file)) whole cut in
    let part : take n (drop at (take most file)) ≡ take n (drop at file) =
    rw cut_most (take-take n (most - at) (drop at file) (omega arith)) in
    (omega arith, rw (is_n, behind, part) refl, omega arith)

-- the four bytes of the length
four : (n : ℕ) → length (big_bytes 4 n) ≡ 4
four n = refl

-- as many as are left are all of them
all_of_rest : (n sent : ℕ) → take (4 - sent) (drop sent (big_bytes 4 n)) ≡ drop sent (big_bytes 4 n)
all_of_rest n sent =
    let rest = drop sent (big_bytes 4 n) in
    let as_many : length rest ≡ 4 - sent = length-drop sent (big_bytes 4 n) in
    subst (λ (k : ℕ). take k rest ≡ rest) as_many (take-length rest)

-- ---- of a disk that may not tell its bytes

-- first the length
pub front_told : (bytes : Option (List ℕ)) (len sent : ℕ) (front part : List ℕ) → IfSome bytes (λ file. len ≡ min 500000 (length file)) → sent < 4
    → front ≡ big_bytes 4 len → part ≡ take (4 - sent) (drop sent front) → IfSome bytes (λ file. IsNextPart (step_reply file) sent 4 (Some part))
front_told None len sent front part told below is cut = tt
front_told (Some file) len sent front part told below is cut =
    let first = rest_of_front (big_bytes 4 (min 500000 (length file))) (take 500000 file) sent below in
    let same : part ≡ drop sent (big_bytes 4 (min 500000 (length file))) = rw (cut, is, told) (all_of_rest (min 500000 (length file)) sent) in
    subst (λ (p : List ℕ). IsNextPart (step_reply file) sent 4 (Some p)) (sym same) first

-- .. then the bytes
pub share_told : (bytes : Option (List ℕ)) (len sent share : ℕ) (part : List ℕ) → IfSome bytes (λ file. len ≡ min 500000 (length file)) → 4 ≤ sent
    → sent - 4 < len → share ≡ min 65536 (len - (sent - 4)) → IfSome bytes (λ file. part ≡ take share (drop (sent - 4) file))
    → IfSome bytes (λ file. IsNextPart (step_reply file) sent (sent + share) (Some part))
share_told None len sent share part told behind within is shared = tt
share_told (Some file) len sent share part told behind within is shared =
    let at = sent - 4 in
    let next = share_of_text (big_bytes 4 (min 500000 (length file))) file 500000 at share (omega arith) (omega arith) in
    let there : 4 + at ≡ sent = omega arith in
    subst (λ (s : ℕ). IsNextPart (step_reply file) s (s + share) (Some part)) there
    (subst (λ (p : List ℕ). IsNextPart (step_reply file) (4 + at) (4 + at + share) (Some p)) (sym shared) next)

-- .. and then nothing
pub none_told : (bytes : Option (List ℕ)) (len sent : ℕ) → IfSome bytes (λ file. len ≡ min 500000 (length file)) → 4 ≤ sent → len ≤ sent - 4
    → IfSome bytes (λ file. IsNextPart (step_reply file) sent sent None)
none_told None len sent told behind over = tt
none_told (Some file) len sent told behind over =
    let as_many : length (step_reply file) ≡ length (big_bytes 4 (min 500000 (length file))) + length (take 500000 file) =
    length-append (big_bytes 4 (min 500000 (length file))) (take 500000 file) in
    let few : length (take 500000 file) ≡ min 500000 (length file) = length-take 500000 file in
    let long : length (step_reply file) ≡ 4 + min 500000 (length file) = omega (arith, four (min 500000 (length file)), as_many, few) in
    (omega arith, refl)
