-- The pieces of a file at their places.
use Rattle.std.proofs.Common.{◌≡◌, ℕ, ◌+◌, ◌≤◌, List, [], ◌∷◌, ◌++◌, length, take, drop, All, refl, sym, ◌∙◌, ap, arith, get_or, ◌<◌, zero, suc, append_assoc, length-append, IsSome, ◌↔◌}
use Rattle.std.specs.Prelude.{Option, Some, None, slice_get}
use Rattle.std.proofs.lemmas.List.{take_at, drop_at, take-take, drop-take, length-map}
use Rattle.std.proofs.lemmas.Bool.{false≢true}
use Rattle.std.proofs.lemmas.List.Elements.{All-head, All-tail}
use Rattle.byteorder.specs.Endian.{big_bytes}
use Rattle.stable_log.specs.Crash.{Torn}
use Rattle.stable_log.specs.Image.{staged_text}
use Rattle.stable_log.specs.Places.{piece_at, payloads_at}
use Rattle.stable_log.specs.declared.reading.PayloadPlace.{PayloadPlace}

abbrev pub Within : ℕ → PayloadPlace → Type 0
Within end p = p.at + p.len ≤ end

piece_front : (end : ℕ) (bs : List ℕ) (p : PayloadPlace) → Within end p → piece_at bs p ≡ drop p.at (take (p.at + p.len) (take end bs))
piece_front end bs p le = sym (drop-take p.at p.len bs) ∙ ap (λ (l : List ℕ). drop p.at l) (sym (take-take (p.at + p.len) end bs le))

-- two files with the same front have the same pieces there
pub same_pieces : (end : ℕ) (bs cs : List ℕ) (places : List PayloadPlace) → take end bs ≡ take end cs → All (Within end) places → payloads_at (Some bs) places ≡ payloads_at (Some cs) places
same_pieces end bs cs [] same all = refl
same_pieces end bs cs (p ∷ places) same all =
    let one : piece_at bs p ≡ piece_at cs p =
    piece_front end bs p (All-head (Within end) p places all) ∙ ap (λ (l : List ℕ). drop p.at (take (p.at + p.len) l)) same ∙ sym (piece_front end cs p (All-head (Within end) p places all)) in
    λ i. one i ∷ same_pieces end bs cs places same (All-tail (Within end) p places all) i

-- the piece that was written last
pub new_piece : (text p junk : List ℕ) (end : ℕ) → end ≡ length text → take (length p) (drop (end + 5) (text ++ 1 ∷ (staged_text p ++ junk))) ≡ p
new_piece text p junk end gate_at =
    let size = big_bytes 4 (length p) in
    let front = text ++ 1 ∷ size in
    let behind : staged_text p ++ junk ≡ size ++ (p ++ 0 ∷ junk) =
    append_assoc size (p ++ 0 ∷ []) junk ∙ ap (λ (l : List ℕ). size ++ l) (append_assoc p (0 ∷ []) junk) in
    let whole : text ++ 1 ∷ (staged_text p ++ junk) ≡ front ++ (p ++ 0 ∷ junk) =
    ap (λ (l : List ℕ). text ++ 1 ∷ l) behind ∙ sym (append_assoc text (1 ∷ size) (p ++ 0 ∷ junk)) in
    let long : length front ≡ end + 5 = omega (arith, length-append text (1 ∷ size)) in
    ap (λ (l : List ℕ). take (length p) (drop (end + 5) l)) whole
    ∙ ap (λ (l : List ℕ). take (length p) l) (drop_at front (p ++ 0 ∷ junk) (end + 5) long)
    ∙ take_at p (0 ∷ junk) (length p) refl

pub length-payloads_at : (o : Option (List ℕ)) (places : List PayloadPlace) → length (payloads_at o places) ≡ length places
length-payloads_at None places = length-map places (λ _. [])
length-payloads_at (Some bs) places = length-map places (piece_at bs)

-- a torn write leaves what stands before it
pub torn_front : (k at n : ℕ) (old new : List ℕ) → k ≤ at → k ≤ length old → Torn at n old new → take k new ≡ take k old
torn_front k at n old new le fits torn =
    sym (take-take k (length old) new fits) ∙ sym (take-take k at (take (length old) new) le) ∙ ap (λ (l : List ℕ). take k l) torn.before ∙ take-take k at old le

-- the list is the same while the front of the file is
pub same_list : (end : ℕ) (o n : Option (List ℕ)) (places : List PayloadPlace) → IsSome n ↔ IsSome o → ((bs cs : List ℕ) → o ≡ Some bs → n ≡ Some cs → take end cs ≡ take end bs) → All (Within end) places
    → payloads_at n places ≡ payloads_at o places
same_list end None None places tells same all = refl
same_list end None (Some cs) places tells same all = absurd (false≢true (tells.0 refl))
same_list end (Some bs) None places tells same all = absurd (false≢true (tells.1 refl))
same_list end (Some bs) (Some cs) places tells same all = same_pieces end cs bs places (same bs cs refl refl) all

pub nth_payload : (bs : List ℕ) (places : List PayloadPlace) (k : ℕ) (place : PayloadPlace) → k < length places → place ≡ get_or places k place → slice_get (payloads_at (Some bs) places) k ≡ Some (piece_at bs place)
nth_payload bs [] k place lt is = absurd (omega (arith, lt))
nth_payload bs (p ∷ places) zero place lt is = ap (λ (q : PayloadPlace). Some (piece_at bs q)) (sym is)
nth_payload bs (p ∷ places) (suc k) place lt is = nth_payload bs places k place (omega (arith, lt)) is
