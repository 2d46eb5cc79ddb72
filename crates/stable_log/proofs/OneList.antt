-- Bytes stand for one list: what an entry read at a gate says of every list that stands for the bytes.
use Rattle.std.proofs.Common.{◌≡◌, ◌≢◌, ℕ, ◌+◌, ◌^◌, ◌≤◌, ◌<◌, List, [], ◌∷◌, ◌++◌, length, get_or, take, drop, All, refl, sym, ◌∙◌, ap, subst, arith, append_assoc, length-append, length-drop, take-append-drop, Some}
use Rattle.std.proofs.lemmas.List.{take_at, drop_at, drop_more, drop_all, append-nil, append_cancel_left}
use Rattle.std.proofs.lemmas.List.Elements.{All-head, All-tail}
use Rattle.std.specs.List.{flat_map}
use Rattle.byteorder.specs.Endian.{big_bytes, big_number}
use Rattle.byteorder.specs.Numbers.{big_number-reads_back}
use Rattle.base_wire.specs.Payloads.{IsPayload}
use Rattle.stable_log.specs.Image.{magic, payload_text, AnImageStandsForOneList, StandsFor}
use Rattle.stable_log.specs.Places.{Holds, IsBrokenAt, IsClosedAt, IsRead, payloads_at}
use Rattle.stable_log.specs.declared.reading.PayloadPlace.{PayloadPlace}
use Rattle.stable_log.proofs.Places.{length-payloads_at}

-- two lengths with the same four bytes are one
same_length : (m n : ℕ) → m < 2 ^ 32 → n < 2 ^ 32 → big_bytes 4 m ≡ big_bytes 4 n → m ≡ n
same_length m n small_m small_n same =
    sym (big_number-reads_back 4 m [] small_m) ∙ ap (λ (bs : List ℕ). big_number 4 (bs ++ [])) same ∙ big_number-reads_back 4 n [] small_n

-- bytes that begin with an entry begin with no other
same_entry : (x y xs ys : List ℕ) → IsPayload x → IsPayload y → payload_text x ++ xs ≡ payload_text y ++ ys → (x ≡ y) × (xs ≡ ys)
same_entry x y xs ys is_x is_y same =
    let sized : big_bytes 4 (length x) ++ (x ++ xs) ≡ big_bytes 4 (length y) ++ (y ++ ys) =
    sym (append_assoc (big_bytes 4 (length x)) x xs) ∙ ap (λ (bs : List ℕ). drop 1 bs) same ∙ append_assoc (big_bytes 4 (length y)) y ys in
    let sizes : big_bytes 4 (length x) ≡ big_bytes 4 (length y) = ap (λ (bs : List ℕ). take 4 bs) sized in
    let long : length x ≡ length y = same_length (length x) (length y) (omega (arith, is_x.1)) (omega (arith, is_y.1)) sizes in
    let behind : x ++ xs ≡ y ++ ys = ap (λ (bs : List ℕ). drop 4 bs) sized in (
      sym (take_at x xs (length x) refl) ∙ ap (λ (bs : List ℕ). take (length x) bs) behind ∙ take_at y ys (length x) (sym long),
      sym (drop_at x xs (length x) refl) ∙ ap (λ (bs : List ℕ). drop (length x) bs) behind ∙ drop_at y ys (length x) (sym long),
    )

-- the first byte is no gate that is not open
not_closed : (xs ys : List ℕ) (gate : ℕ) → gate ≢ 1 → 1 ∷ xs ≡ gate ∷ ys → ⊥
not_closed xs ys gate closed same = closed (ap (λ (bs : List ℕ). get_or bs 0 1) (sym same))

-- whatever is held by bytes that begin with an entry begins with its payload
pub first_held : (x rest : List ℕ) (list : List (List ℕ)) → IsPayload x → Holds (payload_text x ++ rest) list → (more : List (List ℕ)) × (list ≡ x ∷ more) × Holds rest more
first_held x rest [] is_x h = absurd (not_closed (big_bytes 4 (length x) ++ x ++ rest) h.rest h.gate h.closed h.split)
first_held x rest (y ∷ more) is_x h =
    let behind = flat_map payload_text more ++ h.gate ∷ h.rest in
    let same : payload_text x ++ rest ≡ payload_text y ++ behind = h.split ∙ append_assoc (payload_text y) (flat_map payload_text more) (h.gate ∷ h.rest) in
    let parts = same_entry x y rest behind is_x (All-head IsPayload y more h.sizes) same in
    (more, ap (λ (p : List ℕ). p ∷ more) (sym parts.0), record { gate = h.gate; rest = h.rest; split = parts.1; closed = h.closed; sizes = All-tail IsPayload y more h.sizes })

-- and so for many entries
pub front_held : (front : List (List ℕ)) (rest : List ℕ) (list : List (List ℕ)) → All IsPayload front → Holds (flat_map payload_text front ++ rest) list → (more : List (List ℕ)) × (list ≡ front ++ more) × Holds rest more
front_held [] rest list sizes h = (list, refl, h)
front_held (x ∷ front) rest list sizes h =
    let tail = flat_map payload_text front ++ rest in
    let first = first_held x tail list (All-head IsPayload x front sizes) (subst (λ (bs : List ℕ). Holds bs list) (append_assoc (payload_text x) (flat_map payload_text front) rest) h) in
    let later = front_held front rest first.0 (All-tail IsPayload x front sizes) first.2 in
    (later.0, first.1 ∙ ap (λ (l : List (List ℕ)). x ∷ l) later.1, later.2)

-- behind a gate that is not open nothing is held
pub none_held : (bs : List ℕ) (at : ℕ) (list : List (List ℕ)) → IsClosedAt bs at → Holds (drop at bs) list → list ≡ []
none_held bs at [] shut h = refl
none_held bs at (y ∷ more) shut h =
    let gate : get_or bs at 0 ∷ drop (at + 1) bs ≡ payload_text y ++ (flat_map payload_text more ++ h.gate ∷ h.rest) =
    sym (drop_more bs at 0 shut.0) ∙ h.split ∙ append_assoc (payload_text y) (flat_map payload_text more) (h.gate ∷ h.rest) in
    absurd (shut.1 (ap (λ (l : List ℕ). get_or l 0 0) gate))

-- past the end nothing stands
pub broken_past : (bs : List ℕ) (at : ℕ) → length bs ≤ at → IsBrokenAt bs at
broken_past bs at past list h =
    let none : flat_map payload_text list ++ h.gate ∷ h.rest ≡ [] = sym h.split ∙ drop_all at bs past in
    absurd (omega (arith, ap length none, length-append (flat_map payload_text list) (h.gate ∷ h.rest)))

-- an open gate without a whole entry: the length behind it is none of a payload that fits
pub broken_entry : (bs : List ℕ) (at : ℕ) → at < length bs → get_or bs at 0 ≡ 1
    → ((payload : List ℕ) → IsPayload payload → take 4 (drop (at + 1) bs) ≡ big_bytes 4 (length payload) → at + 5 + length payload ≤ length bs → ⊥) → IsBrokenAt bs at
broken_entry bs at inside opened none [] h = not_closed (drop (at + 1) bs) h.rest h.gate h.closed (ap (λ (n : ℕ). n ∷ drop (at + 1) bs) (sym opened) ∙ sym (drop_more bs at 0 inside) ∙ h.split)
broken_entry bs at inside opened none (y ∷ more) h =
    let behind = flat_map payload_text more ++ h.gate ∷ h.rest in
    let size = big_bytes 4 (length y) in
    let whole : get_or bs at 0 ∷ drop (at + 1) bs ≡ payload_text y ++ behind = sym (drop_more bs at 0 inside) ∙ h.split ∙ append_assoc (payload_text y) (flat_map payload_text more) (h.gate ∷ h.rest) in
    let tail : drop (at + 1) bs ≡ size ++ (y ++ behind) = ap (λ (l : List ℕ). drop 1 l) whole ∙ append_assoc size y behind in
    let sized : take 4 (drop (at + 1) bs) ≡ size = ap (λ (l : List ℕ). take 4 l) tail in
    none y (All-head IsPayload y more h.sizes) sized (omega (arith, ap length tail, length-drop (at + 1) bs, length-append size (y ++ behind), length-append y behind))

-- a length read there that fits no payload
pub broken_size : (bs : List ℕ) (at len : ℕ) → at < length bs → get_or bs at 0 ≡ 1 → len < 2 ^ 32 → take 4 (drop (at + 1) bs) ≡ big_bytes 4 len
    → (0 < len → len ≤ 65536 → at + 5 + len ≤ length bs → ⊥) → IsBrokenAt bs at
broken_size bs at len inside opened small read none =
    broken_entry bs at inside opened (λ payload is sized fits.
    let same : len ≡ length payload = same_length len (length payload) small (omega (arith, is.1)) (sym read ∙ sized) in
    none (omega (arith, same, is.0)) (omega (arith, same, is.1)) (omega (arith, same, fits)))

-- what stands for bytes whose front was read goes on from there
pub read_front : (bs : List ℕ) (places : List PayloadPlace) (end : ℕ) (list : List (List ℕ)) → IsRead bs places end → StandsFor bs list
    → (more : List (List ℕ)) × (list ≡ payloads_at (Some bs) places ++ more) × Holds (drop end bs) more
read_front bs places end list read s =
    let front = payloads_at (Some bs) places in
    let whole : magic ++ (flat_map payload_text front ++ drop end bs) ≡ magic ++ (flat_map payload_text list ++ s.gate ∷ s.rest) =
    sym (append_assoc magic (flat_map payload_text front) (drop end bs)) ∙ ap (λ (l : List ℕ). l ++ drop end bs) (sym read.front) ∙ take-append-drop end bs
    ∙ s.split ∙ append_assoc magic (flat_map payload_text list) (s.gate ∷ s.rest) in
    let held : Holds (flat_map payload_text front ++ drop end bs) list =
    record { gate = s.gate; rest = s.rest; split = append_cancel_left magic (flat_map payload_text front ++ drop end bs) (flat_map payload_text list ++ s.gate ∷ s.rest) whole; closed = s.closed; sizes = s.sizes } in
    front_held front (drop end bs) list read.sizes held

-- one list stands for bytes that were read up to a gate that is not open
pub only_list : (bs : List ℕ) (places : List PayloadPlace) (end : ℕ) → IsRead bs places end → IsClosedAt bs end → (list : List (List ℕ)) → StandsFor bs list → list ≡ payloads_at (Some bs) places
only_list bs places end read shut list s =
    let on = read_front bs places end list read s in
    on.1 ∙ ap (λ (l : List (List ℕ)). payloads_at (Some bs) places ++ l) (none_held bs end on.0 shut on.2) ∙ append-nil (payloads_at (Some bs) places)

-- none stands for bytes that are broken behind what was read
pub no_list : (bs : List ℕ) (places : List PayloadPlace) (end : ℕ) → IsRead bs places end → IsBrokenAt bs end → (list : List (List ℕ)) → StandsFor bs list → ⊥
no_list bs places end read broken list s = let on = read_front bs places end list read s in broken on.0 on.2

-- nor for bytes of too many entries
pub no_long_list : (bs : List ℕ) (places : List PayloadPlace) (end : ℕ) → IsRead bs places end → 4096 < length places → (list : List (List ℕ)) → StandsFor bs list → ⊥
no_long_list bs places end read many list s =
    let on = read_front bs places end list read s in
    absurd (omega (arith, s.few, many, ap length on.1, length-append (payloads_at (Some bs) places) on.0, length-payloads_at (Some bs) places))

-- one list stands for an image
pub one_list : AnImageStandsForOneList
one_list image payloads others s t =
    let rest = s.gate ∷ s.rest in
    let whole : magic ++ (flat_map payload_text payloads ++ rest) ≡ magic ++ (flat_map payload_text others ++ t.gate ∷ t.rest) =
    sym (append_assoc magic (flat_map payload_text payloads) rest) ∙ sym s.split ∙ t.split ∙ append_assoc magic (flat_map payload_text others) (t.gate ∷ t.rest) in
    let held : Holds (flat_map payload_text payloads ++ rest) others =
    record { gate = t.gate; rest = t.rest; split = append_cancel_left magic (flat_map payload_text payloads ++ rest) (flat_map payload_text others ++ t.gate ∷ t.rest) whole; closed = t.closed; sizes = t.sizes } in
    let on = front_held payloads rest others s.sizes held in
    let shut : IsClosedAt rest 0 = (omega arith, s.closed) in
    sym (on.1 ∙ ap (λ (l : List (List ℕ)). payloads ++ l) (none_held rest 0 on.0 shut on.2) ∙ append-nil payloads)
