-- The composed file: what it has of the old one, and the keys of each slot.
use Rattle.std.proofs.Common.{◌≡◌, ◌≢◌, ℕ, zero, suc, ◌+◌, ◌*◌, add-one, ◌<◌, ◌≤◌, Bool, true, false, ◌||◌, List, [], ◌∷◌, length, drop, get_or, Option, Some, None, inl, inr, refl, sym, ap, subst, ◌∙◌, arith}
use Rattle.std.specs.Prelude.{codes, if◌then◌else◌}
use Rattle.std.specs.Str.{bytes_eq}
use Rattle.std.proofs.lemmas.Bool.{cases_lt}
use Rattle.std.proofs.lemmas.List.{get_or_append_left, get_or_push, same_lists}
use Rattle.byteorder.specs.Endian.{big_number}
use Rattle.base_wire.specs.Pieces.{number_at, piece}
use Rattle.blocks.specs.Committees.{IsCommittee, has_many_keys, has_weights, key_at, key_place, keys_of, n_of, place_of, weight_at}
use Rattle.blocks.proofs.CommitteeLaws.{head_within, key_steps}
use Rattle.handover_keys.specs.Endorsements.{statement_in}
use Rattle.handover_keys.specs.NextKeys.{count_in, key_in, keys_from}
use Rattle.handover_keys.proofs.NextKeysLaws.{key_of_count, length-keys_from}
use Rattle.handover_renewals.specs.Slots.{keys_upto, slot_keys}
use Rattle.handover_renewals.proofs.SlotLaws.{length-keys_upto}
use Rattle.handover_renewals.specs.Endorsed.{AreGood, endorsement_of, stated_keys}
use Rattle.handover_renewals.specs.Composing.{composed_file, file_upto, next_slot_keys, overwritten, with_slot}
use Rattle.handover_renewals.proofs.Overwriting.{length-overwritten, piece_before, piece_behind, piece_inside}
use Rattle.handover_renewals.proofs.Places.{IsBeside, IsOutside, count_before, front_outside, head_outside, keys_inside, other_keys}
use Rattle.handover_renewals.proofs.Endorsing.{IsEndorsementOf, count_stated, found_good, key_stated, length-stated_keys}

-- ---- one slot

-- the endorsement of a slot, if there is one, is good
abbrev pub IsFor : List ℕ → ℕ → Option (List ℕ) → Type 0
IsFor old s o = (e : List ℕ) → o ≡ Some e → IsEndorsementOf old s e

pub keys_fit : (old file : List ℕ) (s : ℕ) (e : List ℕ) → IsCommittee old → s < n_of old → length file ≡ length old → IsEndorsementOf old s e
    → key_place old s 0 + length (stated_keys e) ≤ length file
keys_fit old file s e is below long good =
    let at = keys_inside old s is below in
    let end = at.end in
    let within = at.within in
    omega (arith, length-stated_keys old s e good)

pub length-with_slot : (old file : List ℕ) (s : ℕ) (o : Option (List ℕ)) → IsCommittee old → s < n_of old → length file ≡ length old → IsFor old s o
    → length (with_slot old file s o) ≡ length old
unfolding with_slot
length-with_slot old file s None is below long good = long
length-with_slot old file s (Some e) is below long good =
    length-overwritten file (key_place old s 0) (stated_keys e) (keys_fit old file s e is below long (good e refl)) ∙ long

-- what is beside the keys of the slot stays
pub beside_stays : (old file : List ℕ) (s : ℕ) (o : Option (List ℕ)) (n i : ℕ) → IsCommittee old → s < n_of old → length file ≡ length old → IsFor old s o
    → IsBeside old n i s → piece n (with_slot old file s o) i ≡ piece n file i
unfolding with_slot
beside_stays old file s None n i is below long good beside = refl
beside_stays old file s (Some e) n i is below long good beside =
    let fits = keys_fit old file s e is below long (good e refl) in
    let as_long = length-stated_keys old s e (good e refl) in
    elim beside [
      | inl before ↦ piece_before file (key_place old s 0) (stated_keys e) n i fits before
      | inr behind ↦ piece_behind file (key_place old s 0) (stated_keys e) n i fits (omega arith)
    ]

-- key k of a slot, by its endorsement
abbrev pub next_key : List ℕ → ℕ → ℕ → Option (List ℕ) → List ℕ
next_key old s k None = key_at old s k
next_key old s k (Some e) = key_in (statement_in e) k

-- the keys of the slot are those
keys_written : (old file : List ℕ) (s : ℕ) (o : Option (List ℕ)) (k : ℕ) → IsCommittee old → s < n_of old → length file ≡ length old → IsFor old s o → k < keys_of old s
    → piece 56 file (key_place old s k) ≡ key_at old s k → piece 56 (with_slot old file s o) (key_place old s k) ≡ next_key old s k o
unfolding with_slot
keys_written old file s None k is below long good has same = same
keys_written old file s (Some e) k is below long good has same =
    let fits = keys_fit old file s e is below long (good e refl) in
    let as_long = length-stated_keys old s e (good e refl) in
    ap (λ (i : ℕ). piece 56 (overwritten file (key_place old s 0) (stated_keys e)) i) (key_steps old s k)
    ∙ piece_inside file (key_place old s 0) (stated_keys e) 56 (56 * k) fits (omega arith)
    ∙ key_stated e k

-- ---- all slots

-- a file that has the old one's bytes outside the keys
pub record IsLike (old file : List ℕ) : Type 0 where
  pub long : length file ≡ length old
  pub same : (n i : ℕ) → IsOutside old n i → piece n file i ≡ piece n old i

good_for : (old : List ℕ) (es : List (List ℕ)) (s : ℕ) → AreGood old es → IsFor old s (endorsement_of es s)
good_for old es s good e is = found_good old es s e good is

pub like_upto : (old : List ℕ) (es : List (List ℕ)) (n : ℕ) → IsCommittee old → AreGood old es → n ≤ n_of old → IsLike old (file_upto old es n)
unfolding file_upto
like_upto old es zero is good most = record { long = refl; same = λ n i outside. refl }
like_upto old es (suc s) is good most =
    let before = like_upto old es s is good (omega arith) in
    let file = file_upto old es s in
    let o = endorsement_of es s in
    let below : s < n_of old = omega arith in
    record {
      long = length-with_slot old file s o is below before.long (good_for old es s good);
      same = λ n i outside. beside_stays old file s o n i is below before.long (good_for old es s good) (outside.each s below) ∙ before.same n i outside;
    }

-- the keys of slots that come later are the old ones
later_keys : (old : List ℕ) (es : List (List ℕ)) (n t k : ℕ) → IsCommittee old → AreGood old es → n ≤ t → t < n_of old → k < keys_of old t
    → piece 56 (file_upto old es n) (key_place old t k) ≡ key_at old t k
unfolding file_upto key_at
later_keys old es zero t k is good later there has = refl
later_keys old es (suc s) t k is good later there has =
    let below : s < n_of old = omega arith in
    let other : s ≢ t = λ same. omega (arith, same) in
    let before = like_upto old es s is good (omega arith) in
    beside_stays old (file_upto old es s) s (endorsement_of es s) 56 (key_place old t k) is below before.long (good_for old es s good) (other_keys old s t k is below there other has)
    ∙ later_keys old es s t k is good (omega arith) there has

-- those of the slots before are what was endorsed
earlier_keys : (old : List ℕ) (es : List (List ℕ)) (n t k : ℕ) → IsCommittee old → AreGood old es → t < n → n ≤ n_of old → k < keys_of old t
    → piece 56 (file_upto old es n) (key_place old t k) ≡ next_key old t k (endorsement_of es t)
unfolding file_upto
earlier_keys old es zero t k is good before most has = absurd (omega arith)
earlier_keys old es (suc s) t k is good before most has =
    let below : s < n_of old = omega arith in
    let file = file_upto old es s in
    let like = like_upto old es s is good (omega arith) in
    elim (cases_lt t s) [
      | inl inside ↦
          let other : s ≢ t = λ same. omega (arith, same) in
          beside_stays old file s (endorsement_of es s) 56 (key_place old t k) is below like.long (good_for old es s good) (other_keys old s t k is below (omega arith) other has)
          ∙ earlier_keys old es s t k is good inside (omega arith) has
      | inr past ↦
          let here : s ≡ t = omega arith in
          let P : ℕ → Type 0 = λ u. piece 56 (with_slot old file s (endorsement_of es s)) (key_place old u k) ≡ next_key old u k (endorsement_of es u) in
          let still : k < keys_of old s = omega (arith, ap (keys_of old) here) in
          subst P here (keys_written old file s (endorsement_of es s) k is below like.long (good_for old es s good) still (later_keys old es s s k is good (omega arith) below still))
    ]

-- ---- what a file that is like the old one has of it

pub same_magic : (old file : List ℕ) → IsCommittee old → IsLike old file → piece 4 file 0 ≡ piece 4 old 0
same_magic old file is like = like.same 4 0 (head_outside old 4 0 is (omega arith))

pub same_n : (old file : List ℕ) → IsCommittee old → IsLike old file → n_of file ≡ n_of old
unfolding number_at
same_n old file is like = ap (big_number 2) (like.same 2 6 (head_outside old 2 6 is (omega arith)))

-- what the first bytes say
abbrev many_by : List ℕ → Bool
many_by magic = bytes_eq (codes "HSC3") magic

abbrev weights_by : List ℕ → Bool
weights_by magic = many_by magic || bytes_eq (codes "HSC2") magic

same_many : (old file : List ℕ) → piece 4 file 0 ≡ piece 4 old 0 → has_many_keys file ≡ has_many_keys old
same_many old file magic = ap many_by magic

same_weights : (old file : List ℕ) → piece 4 file 0 ≡ piece 4 old 0 → has_weights file ≡ has_weights old
same_weights old file magic = ap weights_by magic

same_place : (old file : List ℕ) (s : ℕ) → piece 4 file 0 ≡ piece 4 old 0 → place_of file s ≡ place_of old s
same_place old file s magic =
    let m = same_many old file magic in
    let w = same_weights old file magic in
    λ i. if m i then 8 + 232 * s else (if w i then 8 + 60 * s else 8 + 56 * s)

same_key_place : (old file : List ℕ) (s k : ℕ) → piece 4 file 0 ≡ piece 4 old 0 → key_place file s k ≡ key_place old s k
same_key_place old file s k magic =
    let m = same_many old file magic in
    let w = same_weights old file magic in
    let p = same_place old file s magic in
    λ i. if m i then p i + 8 + 56 * k else (if w i then p i + 4 + 56 * k else p i + 56 * k)

-- a number that is read where there is a field for it, else another
read_if : (b c : Bool) (x y d : ℕ) → c ≡ b → (b ≡ true → y ≡ x) → (if c then y else d) ≡ (if b then x else d)
read_if true c x y d same read = rw same (read refl)
read_if false c x y d same read = rw same refl

pub same_weight : (old file : List ℕ) (s : ℕ) → IsCommittee old → IsLike old file → s < n_of old → weight_at file s ≡ weight_at old s
unfolding weight_at number_at
same_weight old file s is like below =
    let magic = same_magic old file is like in
    read_if (has_weights old) (has_weights file) (number_at 4 old (place_of old s)) (number_at 4 file (place_of file s)) 1 (same_weights old file magic)
    (λ w.
    let outside = front_outside old 4 (place_of old s) s is below (omega arith) (head_within old s w) in
    ap (λ (i : ℕ). number_at 4 file i) (same_place old file s magic) ∙ ap (big_number 4) (like.same 4 (place_of old s) outside))

pub same_count : (old file : List ℕ) (s : ℕ) → IsCommittee old → IsLike old file → s < n_of old → keys_of file s ≡ keys_of old s
unfolding keys_of number_at
same_count old file s is like below =
    let magic = same_magic old file is like in
    read_if (has_many_keys old) (has_many_keys file) (number_at 4 old (place_of old s + 4)) (number_at 4 file (place_of file s + 4)) 1 (same_many old file magic)
    (λ m.
    let room = count_before old s m in
    let outside = front_outside old 4 (place_of old s + 4) s is below (omega arith) (omega arith) in
    ap (λ (i : ℕ). number_at 4 file (i + 4)) (same_place old file s magic) ∙ ap (big_number 4) (like.same 4 (place_of old s + 4) outside))

-- ---- the composed file

pub composed_like : (old : List ℕ) (es : List (List ℕ)) → IsCommittee old → AreGood old es → IsLike old (composed_file old es)
composed_like old es is good = like_upto old es (n_of old) is good (omega arith)

pub key_composed : (old : List ℕ) (es : List (List ℕ)) (s k : ℕ) → IsCommittee old → AreGood old es → s < n_of old → k < keys_of old s
    → key_at (composed_file old es) s k ≡ next_key old s k (endorsement_of es s)
unfolding key_at
key_composed old es s k is good below has =
    let file = composed_file old es in
    let magic = same_magic old file is (composed_like old es is good) in
    ap (piece 56 file) (same_key_place old file s k magic) ∙ earlier_keys old es (n_of old) s k is good below (omega arith) has

-- ---- the keys of a slot as a list

key_there : (new : List ℕ) (s n k : ℕ) (d : List ℕ) → k < n → get_or (keys_upto new s n) k d ≡ key_at new s k
unfolding keys_upto
key_there new s zero k d below = absurd (omega arith)
key_there new s (suc n) k d below =
    let long = length-keys_upto new s n in
    elim (cases_lt k n) [
      | inl inside ↦ get_or_append_left (keys_upto new s n) (key_at new s n ∷ []) d k (omega arith) ∙ key_there new s n k d inside
      | inr past ↦
          let last : k ≡ n = omega arith in
          get_or_push (keys_upto new s n) (key_at new s n) d k (omega arith) ∙ ap (key_at new s) (sym last)
    ]

keys_by : (old file : List ℕ) (s : ℕ) (o : Option (List ℕ)) → IsFor old s o → ((k : ℕ) → k < keys_of old s → key_at file s k ≡ next_key old s k o)
    → keys_upto file s (keys_of old s) ≡ next_slot_keys old s o
keys_by old file s None good each =
    let n = keys_of old s in
    let long : length (keys_upto file s n) ≡ length (keys_upto old s n) = length-keys_upto file s n ∙ sym (length-keys_upto old s n) in
    same_lists (keys_upto file s n) (keys_upto old s n) long
    (λ k d below.
    let has : k < n = omega (arith, length-keys_upto file s n) in
    key_there file s n k d has ∙ each k has ∙ sym (key_there old s n k d has))
keys_by old file s (Some e) good each =
    let n = keys_of old s in
    let count = count_stated old s e (good e refl) in
    let keys = keys_from (count_in (statement_in e)) (drop 39 (statement_in e)) in
    let long : length (keys_upto file s n) ≡ length keys = length-keys_upto file s n ∙ sym count ∙ sym (length-keys_from (count_in (statement_in e)) (drop 39 (statement_in e))) in
    same_lists (keys_upto file s n) keys long
    (λ k d below.
    let has : k < n = omega (arith, length-keys_upto file s n) in
    key_there file s n k d has ∙ each k has ∙ sym (key_of_count (statement_in e) k d (omega arith)))

pub slot_composed : (old : List ℕ) (es : List (List ℕ)) (s : ℕ) → IsCommittee old → AreGood old es → s < n_of old
    → slot_keys (composed_file old es) s ≡ next_slot_keys old s (endorsement_of es s)
slot_composed old es s is good below =
    let file = composed_file old es in
    ap (keys_upto file s) (same_count old file s is (composed_like old es is good) below)
    ∙ keys_by old file s (endorsement_of es s) (good_for old es s good) (λ k has. key_composed old es s k is good below has)

-- ---- of no endorsements

pub composed_none : (old : List ℕ) (n : ℕ) → file_upto old [] n ≡ old
unfolding file_upto with_slot endorsement_of
composed_none old zero = refl
composed_none old (suc n) = composed_none old n

-- ---- as the loop writes it

pub slot_none : (old file : List ℕ) (s : ℕ) (o : Option (List ℕ)) → o ≡ None → file ≡ with_slot old file s o
unfolding with_slot
slot_none old file s None none = refl
slot_none old file s (Some e) none = absurd cc

pub slot_put : (old file new p : List ℕ) (s at : ℕ) (e : List ℕ) (o : Option (List ℕ)) → Some e ≡ o → at ≡ key_place old s 0 → p ≡ stated_keys e → new ≡ overwritten file at p
    → new ≡ with_slot old file s o
unfolding with_slot
slot_put old file new p s at e None found place keys put = absurd cc
slot_put old file new p s at e (Some f) found place keys put =
    let one : e ≡ f = cc in
    put ∙ (λ i. overwritten file (place i) ((keys ∙ ap stated_keys one) i))

pub file_more : (old : List ℕ) (es : List (List ℕ)) (s : ℕ) → with_slot old (file_upto old es s) s (endorsement_of es s) ≡ file_upto old es (s + 1)
unfolding file_upto
file_more old es s = rw add-one refl

pub file_none : (old : List ℕ) (es : List (List ℕ)) → file_upto old es 0 ≡ old
unfolding file_upto
file_none old es = refl
