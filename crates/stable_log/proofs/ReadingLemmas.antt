-- An entry that is read piece by piece, and the entries up to a gate.
use Rattle.std.proofs.Common.{◌≡◌, ℕ, ◌+◌, ◌≤◌, ◌<◌, List, [], ◌∷◌, ◌++◌, length, get_or, take, drop, All, Some, sym, ◌∙◌, ap, subst, arith, append_assoc, length-append, length-drop, take-append-drop, add-zero, Option, false}
use Rattle.std.proofs.lemmas.List.{take_at, drop_more, drop-drop, map-append, length-take-le, length-map, get_or-drop, get_or-take}
use Rattle.std.proofs.lemmas.List.Elements.{All-push}
use Rattle.byteorder.specs.Endian.{big_bytes}
use Rattle.stable_log.specs.Crash.{Only}
use Rattle.base_wire.specs.Payloads.{IsPayload}
use Rattle.stable_log.specs.Image.{magic, payload_text, journal_text, StandsFor}
use Rattle.stable_log.specs.Places.{IsClosedAt, IsPayloadAt, IsRead, IsJournal, ArePlaces, IsBrokenAt, IsPayloadRefusal, IsPayloadsRefusal, payloads_at, piece_at}
use Rattle.stable_log.specs.declared.reading.PayloadPlace.{PayloadPlace}
use Rattle.stable_log.specs.Refusals.{IsDamaged, IsJournalRecoverRefusal}
use Rattle.stable_log.specs.declared.error.JournalError.{JournalError}
use Rattle.stable_log.specs.declared.error.JournalError.TheVariants.{Memory, Device, NotAJournal, Damaged, Full, TooLong, Stopped, NoSuchEntry}
use Rattle.stable_log.proofs.Crash.{text-push}
use Rattle.stable_log.proofs.OneList.{only_list}
use Rattle.stable_log.proofs.Told.{some_if}

-- an open gate, a length and as many bytes are an entry
pub entry_at : (bs : List ℕ) (end len : ℕ) → end + 5 + len ≤ length bs → 0 < len → len ≤ 65536 → get_or bs end 0 ≡ 1 → take 4 (drop (end + 1) bs) ≡ big_bytes 4 len → IsPayloadAt bs end (record { at = end + 5; len = len })
entry_at bs end len fits some small open_gate size_is =
    let place : PayloadPlace = record { at = end + 5; len = len } in
    let piece = piece_at bs place in
    let long : length piece ≡ len = length-take-le len (drop (end + 5) bs) (omega (arith, length-drop (end + 5) bs)) in
    let rest = drop (end + 5 + len) bs in
    let tail : drop (end + 5) bs ≡ piece ++ rest = sym (take-append-drop len (drop (end + 5) bs)) ∙ ap (λ (l : List ℕ). piece ++ l) (drop-drop len (end + 5) bs) in
    let sized : drop (end + 1) bs ≡ big_bytes 4 (length piece) ++ (piece ++ rest) =
    sym (take-append-drop 4 (drop (end + 1) bs))
    ∙ ap (λ (l : List ℕ). l ++ drop 4 (drop (end + 1) bs)) (size_is ∙ ap (λ (n : ℕ). big_bytes 4 n) (sym long))
    ∙ ap (λ (l : List ℕ). big_bytes 4 (length piece) ++ l) (drop-drop 4 (end + 1) bs ∙ ap (λ (n : ℕ). drop n bs) five ∙ tail) in
    let gated : drop end bs ≡ 1 ∷ drop (end + 1) bs = drop_more bs end 0 (omega arith) ∙ ap (λ (n : ℕ). n ∷ drop (end + 1) bs) open_gate in
    record {
      text = gated ∙ ap (λ (l : List ℕ). 1 ∷ l) (sized ∙ sym (append_assoc (big_bytes 4 (length piece)) piece rest));
      size = (omega (arith, long), omega (arith, long));
    }
  where
    five : end + 1 + 4 ≡ end + 5
    five = omega arith

-- one entry more
pub read_more : (bs : List ℕ) (places : List PayloadPlace) (end : ℕ) (place : PayloadPlace) → IsRead bs places end → IsPayloadAt bs end place → place.at + place.len ≤ length bs → place.at ≡ end + 5 → IsRead bs (places ++ place ∷ []) (place.at + place.len)
read_more bs places end place so_far entry fits at_is =
    let list = payloads_at (Some bs) places in
    let piece = piece_at bs place in
    let rest = drop (place.at + place.len) bs in
    let len_is : length piece ≡ place.len = length-take-le place.len (drop place.at bs) (omega (arith, length-drop place.at bs, fits)) in
    let more : payloads_at (Some bs) (places ++ place ∷ []) ≡ list ++ piece ∷ [] = map-append (piece_at bs) places (place ∷ []) in
    let text = journal_text list in
    let whole : bs ≡ (text ++ payload_text piece) ++ rest =
    sym (take-append-drop end bs) ∙ ap (λ (l : List ℕ). l ++ drop end bs) so_far.front ∙ ap (λ (l : List ℕ). text ++ l) entry.text ∙ sym (append_assoc text (payload_text piece) rest) in
    let size : length (text ++ payload_text piece) ≡ place.at + place.len =
    omega (arith, length-append text (payload_text piece), length-append (big_bytes 4 (length piece)) piece, ap length so_far.front, length-take-le end bs so_far.fits) in
    record {
      front = ap (λ (l : List ℕ). take (place.at + place.len) l) whole ∙ take_at (text ++ payload_text piece) rest (place.at + place.len) size ∙ sym (text-push list piece) ∙ ap journal_text (sym more);
      fits = fits;
      sizes = subst (λ (l : List (List ℕ)). All IsPayload l) (sym more) (All-push IsPayload list piece so_far.sizes entry.size);
    }

-- up to a gate that is not open
pub read_all : (bs : List ℕ) (places : List PayloadPlace) (end : ℕ) → IsRead bs places end → IsClosedAt bs end → length places ≤ 4096 → StandsFor bs (payloads_at (Some bs) places)
read_all bs places end read shut few =
    record {
      gate = get_or bs end 0;
      rest = drop (end + 1) bs;
      split = sym (take-append-drop end bs) ∙ ap (λ (l : List ℕ). l ++ drop end bs) read.front ∙ ap (λ (l : List ℕ). journal_text (payloads_at (Some bs) places) ++ l) (drop_more bs end 0 shut.0);
      closed = shut.1;
      sizes = read.sizes;
      few = omega (arith, few, length-map places (piece_at bs));
    }

pub first_of_piece : (bs : List ℕ) (end : ℕ) (piece : List ℕ) → piece ≡ take 1 (drop end bs) → get_or bs end 0 ≡ get_or piece 0 0
first_of_piece bs end piece is = ap (λ (n : ℕ). get_or bs n 0) (sym (add-zero end)) ∙ sym (get_or-drop end bs 0 0) ∙ sym (get_or-take 1 (drop end bs) 0 0 (omega arith)) ∙ ap (λ (l : List ℕ). get_or l 0 0) (sym is)

pub read_none : (bs : List ℕ) → take 8 bs ≡ magic → 8 ≤ length bs → IsRead bs [] 8
read_none bs front fits = record { front = front; fits = fits; sizes = λ k d lt. absurd (omega (arith, lt)) }

-- what was read is a journal at rest
pub journal_read : (o : Option (List ℕ)) (images : List ℕ → Type 0) (places : List PayloadPlace) (end : ℕ) → ArePlaces places end
    → ((bs : List ℕ) → o ≡ Some bs → IsRead bs places end × IsClosedAt bs end × Only bs images) → IsJournal o images places end false
journal_read o images places end kept told = record {
  placed = kept;
  at_rest = λ _ bs is.
      let t = told bs is in
      record {
        stands = read_all bs places end t.0 t.1 kept.few;
        gate_at = sym (length-take-le end bs t.0.fits) ∙ ap length t.0.front;
        durable = t.2;
      };
}

pub stands_read : (o : Option (List ℕ)) (images : List ℕ → Type 0) (places : List PayloadPlace) (end : ℕ) → ArePlaces places end
    → ((bs : List ℕ) → o ≡ Some bs → IsRead bs places end × IsClosedAt bs end × Only bs images) → (bs : List ℕ) → o ≡ Some bs → StandsFor bs (payloads_at o places)
stands_read o images places end kept told bs is =
    let t = told bs is in
    subst (λ (v : Option (List ℕ)). StandsFor bs (payloads_at v places)) (sym is) (read_all bs places end t.0 t.1 kept.few)

-- entries that can't be read, behind a good head
pub recover_refusal : (told now : Option (List ℕ)) (e : JournalError) → IsPayloadsRefusal now e → now ≡ told → ((bs : List ℕ) → told ≡ Some bs → take 8 bs ≡ magic) → IsJournalRecoverRefusal told e
recover_refusal told now Memory fault same head = tt
recover_refusal told now Device fault same head = tt
recover_refusal told now Damaged fault same head = some_if told IsDamaged (λ bs is. (head bs is, fault bs (same ∙ is)))
recover_refusal told now NotAJournal fault same head = absurd fault
recover_refusal told now Full fault same head = absurd fault
recover_refusal told now TooLong fault same head = absurd fault
recover_refusal told now Stopped fault same head = absurd fault
recover_refusal told now NoSuchEntry fault same head = absurd fault

-- a gate that can't be read, behind entries that were read
pub entries_fault : (told now : Option (List ℕ)) (size at : ℕ) (e : JournalError) → IsPayloadRefusal now size at e → now ≡ told → ((bs : List ℕ) → told ≡ Some bs → size ≡ length bs)
    → ((bs : List ℕ) → told ≡ Some bs → IsBrokenAt bs at → (list : List (List ℕ)) → StandsFor bs list → ⊥) → IsPayloadsRefusal told e
entries_fault told now size at Memory fault same long none = tt
entries_fault told now size at Device fault same long none = tt
entries_fault told now size at Damaged fault same long none = λ bs is. none bs is (fault bs (same ∙ is) (long bs is))
entries_fault told now size at NotAJournal fault same long none = absurd fault
entries_fault told now size at Full fault same long none = absurd fault
entries_fault told now size at TooLong fault same long none = absurd fault
entries_fault told now size at Stopped fault same long none = absurd fault
entries_fault told now size at NoSuchEntry fault same long none = absurd fault

pub only_read : (o : Option (List ℕ)) (places : List PayloadPlace) (end : ℕ) (bs : List ℕ) → o ≡ Some bs → IsRead bs places end → IsClosedAt bs end → (list : List (List ℕ)) → StandsFor bs list → list ≡ payloads_at o places
only_read o places end bs is read shut list s = only_list bs places end read shut list s ∙ ap (λ (v : Option (List ℕ)). payloads_at v places) (sym is)
