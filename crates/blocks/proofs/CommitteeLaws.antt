-- What is read is a committee, and a committee is read.
use Rattle.std.proofs.Common.{◌≡◌, ◌≢◌, ◌⊎◌, ◌↔◌, ℕ, zero, suc, ◌+◌, ◌-◌, ◌*◌, ◌^◌, ◌<◌, ◌≤◌, ◌++◌, Bool, true, false, ◌&&◌, ◌||◌, List, [], ◌∷◌, length, get_or, take, drop, Result, Ok, Err, Option, Some, None, refl, sym, ap, subst, ◌∙◌, inl, inr, arith}
use Rattle.std.specs.Prelude.{IfSome, IsOk, is_ok, slice_get, nat_le, ◌==◌, codes, replicate, if◌then◌else◌}
use Rattle.std.specs.List.{All, AllPairs, concat, flat_map}
use Rattle.std.specs.Str.{bytes_eq}
use Rattle.std.specs.Cmp.Lexicographic.{same_text}
use Rattle.std.proofs.lemmas.Bool.{false_from_ne_true}
use Rattle.std.proofs.lemmas.Bool.Decides.{nat_tests}
use Rattle.std.proofs.lemmas.Grind.{flat_map-append}
use Rattle.std.proofs.lemmas.List.{drop_all, get_or-replicate, get_or_default, length-append, length-replicate, append-nil, append_assoc, replicate-append-replicate, take_more}
use Rattle.std.proofs.lemmas.Option.{slice_get_read}
use Rattle.std.proofs.Math.Nat.{add_comm, suc-mul}
use Rattle.std.proofs.lemmas.List.Folds.{concat-append}
use Rattle.std.proofs.lemmas.Slice.Eq.{bytes_eq-Decides}
use Rattle.byteorder.specs.Endian.{big_bytes}
use Rattle.lms_tree.specs.Keys.{IsPublicKey}
use Rattle.lms_tree.specs.declared.public_key.PublicKey.{PublicKey}
use Rattle.lms_tree.specs.declared.public_key.KeyRefusal.{KeyRefusal}
use Rattle.base_wire.specs.Pieces.{piece, number_at, AreBytes}
use Rattle.base_wire.specs.Refusals.{first_of}
use Rattle.base_wire.proofs.Numbers.{taken, front, behind, length-piece, piece-number_at, number_again, number_below}
use Rattle.base_wire.proofs.Needs.{need_ok, need_true, unless_ok}
use Rattle.blocks.proofs.FirstsMore.{none_at, none_of, unless_none, else_none, both_none}
use Rattle.blocks.specs.declared.committee.CommitteeRefusal.{CommitteeRefusal}
use Rattle.blocks.specs.declared.committee.CommitteeRefusal.TheVariants.{Length, Magic, Size, KeyCount, Key, SameKey, Weight}
use Rattle.blocks.specs.CommitteeReading.{CountsFit, has_format, has_size, is_of_size, is_of_weighted_size, is_count, unused_at, are_zeros, bad_count, is_key, key_number, bad_key, bad_key_of, same_key, same_key_of, twin_of, first_twin_of, no_weight, committee_in}
use Rattle.blocks.specs.Weights.{weight_of, is_any, total_of}
use Rattle.blocks.specs.Committees.{Member, HaveDifferentKeys, HaveKeys, HaveOneKey, AreWeighted, CountOnce, HaveWeights, HaveManyKeys, AreSpelled, IsCommittee, committee_text, weighted_text, multikey_text, member_text, multikey_member_text, slots_text, has_many_keys, has_weights, n_of, place_of, weight_at, room_of, keys_of, key_place, key_at}

-- ---- public keys

types_from : (tree ots : ℕ) → (tree == 6 && ots == 4) ≡ true → (tree ≡ 6) × (ots ≡ 4)
types_from tree ots e = (grind (arith, nat_tests), grind (arith, nat_tests))

types_true : (tree ots : ℕ) → tree ≡ 6 → ots ≡ 4 → (tree == 6 && ots == 4) ≡ true
types_true tree ots t o = grind (arith, nat_tests)

pub public_key : (key : List ℕ) → length key ≡ 56 → is_key key ≡ true → IsPublicKey key
unfolding is_key
public_key key long e =
    let types = types_from (number_at 4 key 0) (number_at 4 key 4) e in
    record { long = long; tree_type = types.0; ots_type = types.1 }

is_key-public_key : (key : List ℕ) → IsPublicKey key → is_key key ≡ true
unfolding is_key
is_key-public_key key is = types_true _ _ is.tree_type is.ots_type

-- what the reader of keys answers
pub key_told : (key : List ℕ) (r : Result PublicKey KeyRefusal) → length key ≡ 56 → IsOk r ↔ IsPublicKey key → is_ok r ≡ is_key key
key_told key (Ok k) long exact = sym (is_key-public_key key (exact.0 refl))
key_told key (Err x) long exact = sym (false_from_ne_true (is_key key) (λ t. let ok = exact.1 (public_key key long t) in absurd cc))

-- some member, where one is asked for
abbrev pub some_member : Member
some_member = record { weight = 0; keys = [] }

-- one more key
pub concat-take : (keys : List (List ℕ)) (i : ℕ) (d : List ℕ) → i < length keys → concat (take (i + 1) keys) ≡ concat (take i keys) ++ get_or keys i d
concat-take keys i d below =
    ap concat (take_more keys i d below) ∙ concat-append (take i keys) (get_or keys i d ∷ [])
    ∙ ap (λ (t : List ℕ). concat (take i keys) ++ t) (append-nil (get_or keys i d))

-- one more member
pub members-take : (text_of : Member → List ℕ) (members : List Member) (i : ℕ) (d : Member) → i < length members
    → flat_map text_of (take (i + 1) members) ≡ flat_map text_of (take i members) ++ text_of (get_or members i d)
members-take text_of members i d below =
    ap (flat_map text_of) (take_more members i d below)
    ∙ flat_map-append text_of (take i members) (get_or members i d ∷ [])
    ∙ ap (λ (t : List ℕ). flat_map text_of (take i members) ++ t) (append-nil (text_of (get_or members i d)))

-- the keys of all members, one after the other
abbrev keys_text : Member → List ℕ
keys_text m = concat m.keys

concat_keys : (members : List Member) → concat (flat_map (λ m. m.keys) members) ≡ flat_map keys_text members
concat_keys [] = refl
concat_keys (m ∷ ms) = concat-append m.keys (flat_map (λ o. o.keys) ms) ∙ ap (λ (t : List ℕ). concat m.keys ++ t) (concat_keys ms)

one_key_each : (members : List Member) → HaveOneKey members → length (flat_map (λ m. m.keys) members) ≡ length members
one_key_each [] one = refl
one_key_each (m ∷ ms) one =
    let rest = one_key_each ms (λ k d below. one (suc k) d (omega arith)) in
    let first = one 0 m (omega arith) in
    omega (arith, length-append m.keys (flat_map (λ o. o.keys) ms))

-- ---- the three formats

-- one way or the other
cases : (b : Bool) → (b ≡ true) ⊎ (b ≡ false)
cases true = inl refl
cases false = inr refl

true_not_false : (b : Bool) → b ≡ true → b ≡ false → ⊥
true_not_false b t f = absurd cc

or_right : (a b : Bool) → b ≡ true → (a || b) ≡ true
or_right true b e = refl
or_right false b e = e

or_left : (a b : Bool) → a ≡ true → (a || b) ≡ true
or_left true b e = refl
or_left false b e = absurd cc

-- which of them it is
data Format (bytes : List ℕ) : Type 0 where
  plain : has_many_keys bytes ≡ false → has_weights bytes ≡ false → Format bytes
  weighted : has_many_keys bytes ≡ false → has_weights bytes ≡ true → Format bytes
  multikey : has_many_keys bytes ≡ true → has_weights bytes ≡ true → Format bytes

format_of : (bytes : List ℕ) → Format bytes
format_of bytes = elim (cases (has_many_keys bytes)) [
  | inl m ↦ multikey m (or_left (has_many_keys bytes) (bytes_eq (codes "HSC2") (piece 4 bytes 0)) m)
  | inr o ↦ elim (cases (has_weights bytes)) [ inl w ↦ weighted o w | inr p ↦ plain o p ]
]

place_plain : (bytes : List ℕ) (r : ℕ) → has_many_keys bytes ≡ false → has_weights bytes ≡ false → place_of bytes r ≡ 8 + 56 * r
place_plain bytes r o p = rw (p, o) refl

place_weighted : (bytes : List ℕ) (r : ℕ) → has_many_keys bytes ≡ false → has_weights bytes ≡ true → place_of bytes r ≡ 8 + 60 * r
place_weighted bytes r o w = rw (w, o) refl

place_multikey : (bytes : List ℕ) (r : ℕ) → has_many_keys bytes ≡ true → place_of bytes r ≡ 8 + 232 * r
place_multikey bytes r m = rw m refl

key_plain : (bytes : List ℕ) (r k : ℕ) → has_many_keys bytes ≡ false → has_weights bytes ≡ false → key_place bytes r k ≡ 8 + 56 * r + 56 * k
key_plain bytes r k o p = rw (p, o) refl

key_weighted : (bytes : List ℕ) (r k : ℕ) → has_many_keys bytes ≡ false → has_weights bytes ≡ true → key_place bytes r k ≡ 8 + 60 * r + 4 + 56 * k
key_weighted bytes r k o w = rw (w, o) refl

key_multikey : (bytes : List ℕ) (r k : ℕ) → has_many_keys bytes ≡ true → key_place bytes r k ≡ 8 + 232 * r + 8 + 56 * k
key_multikey bytes r k m = rw m refl

weight_plain : (bytes : List ℕ) (r : ℕ) → has_weights bytes ≡ false → weight_at bytes r ≡ 1
unfolding weight_at
weight_plain bytes r p = rw p refl

weight_read : (bytes : List ℕ) (r : ℕ) → has_weights bytes ≡ true → weight_at bytes r ≡ number_at 4 bytes (place_of bytes r)
unfolding weight_at
weight_read bytes r w = rw w refl

room_one : (bytes : List ℕ) → has_many_keys bytes ≡ false → room_of bytes ≡ 1
room_one bytes o = rw o refl

room_most : (bytes : List ℕ) → has_many_keys bytes ≡ true → room_of bytes ≡ 4
room_most bytes m = rw m refl

keys_one : (bytes : List ℕ) (r : ℕ) → has_many_keys bytes ≡ false → keys_of bytes r ≡ 1
unfolding keys_of
keys_one bytes r o = rw o refl

keys_read : (bytes : List ℕ) (r : ℕ) → has_many_keys bytes ≡ true → keys_of bytes r ≡ number_at 4 bytes (place_of bytes r + 4)
unfolding keys_of
keys_read bytes r m = rw m refl

-- the replicas stand one behind the other
pub place_below : (bytes : List ℕ) (r n : ℕ) → r < n → place_of bytes (r + 1) ≤ place_of bytes n
place_below bytes r n below = elim (format_of bytes) [
  | plain o p ↦ omega (arith, place_plain bytes (r + 1) o p, place_plain bytes n o p)
  | weighted o w ↦ omega (arith, place_weighted bytes (r + 1) o w, place_weighted bytes n o w)
  | multikey m w ↦ omega (arith, place_multikey bytes (r + 1) m, place_multikey bytes n m)
]

-- the keys of a replica one behind the other
pub key_steps : (bytes : List ℕ) (r k : ℕ) → key_place bytes r k ≡ key_place bytes r 0 + 56 * k
key_steps bytes r k = elim (format_of bytes) [
  | plain o p ↦ omega (arith, key_plain bytes r k o p, key_plain bytes r 0 o p)
  | weighted o w ↦ omega (arith, key_weighted bytes r k o w, key_weighted bytes r 0 o w)
  | multikey m w ↦ omega (arith, key_multikey bytes r k m, key_multikey bytes r 0 m)
]

-- the room for them ends where the replica does
pub room_ends : (bytes : List ℕ) (r : ℕ) → key_place bytes r (room_of bytes) ≡ place_of bytes (r + 1)
room_ends bytes r = elim (format_of bytes) [
  | plain o p ↦ omega (arith, key_plain bytes r (room_of bytes) o p, room_one bytes o, place_plain bytes (r + 1) o p)
  | weighted o w ↦ omega (arith, key_weighted bytes r (room_of bytes) o w, room_one bytes o, place_weighted bytes (r + 1) o w)
  | multikey m w ↦ omega (arith, key_multikey bytes r (room_of bytes) m, room_most bytes m, place_multikey bytes (r + 1) m)
]

-- what stands before the keys stands in the replica
pub head_within : (bytes : List ℕ) (r : ℕ) → has_weights bytes ≡ true → place_of bytes r + 4 ≤ key_place bytes r 0
head_within bytes r w = elim (format_of bytes) [
  | plain o p ↦ absurd (true_not_false (has_weights bytes) w p)
  | weighted o v ↦ omega (arith, key_weighted bytes r 0 o v, place_weighted bytes r o v)
  | multikey m v ↦ omega (arith, key_multikey bytes r 0 m, place_multikey bytes r m)
]

pub length-key_at : (bytes : List ℕ) (r k : ℕ) → place_of bytes (r + 1) ≤ length bytes → k < room_of bytes → length (key_at bytes r k) ≡ 56
unfolding key_at
length-key_at bytes r k long below =
    length-piece 56 bytes (key_place bytes r k) (omega (arith, key_steps bytes r k, key_steps bytes r (room_of bytes), room_ends bytes r))

-- ---- the members that stand in bytes

-- c keys of replica r, from key k on
keys_from : List ℕ → ℕ → ℕ → ℕ → List (List ℕ)
keys_from bytes r zero k = []
keys_from bytes r (suc c) k = key_at bytes r k ∷ keys_from bytes r c (suc k)

length-keys_from : (bytes : List ℕ) (r c k : ℕ) → length (keys_from bytes r c k) ≡ c
unfolding keys_from
length-keys_from bytes r zero k = refl
length-keys_from bytes r (suc c) k = let rest = length-keys_from bytes r c (suc k) in omega arith

get_or-keys_from : (bytes : List ℕ) (r c k j : ℕ) (d : List ℕ) → j < c → get_or (keys_from bytes r c k) j d ≡ key_at bytes r (k + j)
unfolding keys_from
get_or-keys_from bytes r zero k j d below = absurd (omega arith)
get_or-keys_from bytes r (suc c) k zero d below = let e : k ≡ k + 0 = omega arith in ap (key_at bytes r) e
get_or-keys_from bytes r (suc c) k (suc j) d below =
    let e : suc k + j ≡ k + suc j = omega arith in
    get_or-keys_from bytes r c (suc k) j d (omega arith) ∙ ap (key_at bytes r) e

abbrev member_at : List ℕ → ℕ → Member
member_at bytes r = record { weight = weight_at bytes r; keys = keys_from bytes r (keys_of bytes r) 0 }

-- where they are all
get_or-keys : (bytes : List ℕ) (r j : ℕ) (d : List ℕ) → j < keys_of bytes r → get_or (member_at bytes r).keys j d ≡ key_at bytes r j
get_or-keys bytes r j d below = let e : 0 + j ≡ j = omega arith in get_or-keys_from bytes r (keys_of bytes r) 0 j d below ∙ ap (key_at bytes r) e

-- n members, from replica k on
members_from : List ℕ → ℕ → ℕ → List Member
members_from bytes zero k = []
members_from bytes (suc n) k = member_at bytes k ∷ members_from bytes n (suc k)

length-members_from : (bytes : List ℕ) (n k : ℕ) → length (members_from bytes n k) ≡ n
unfolding members_from
length-members_from bytes zero k = refl
length-members_from bytes (suc n) k = let rest = length-members_from bytes n (suc k) in omega arith

get_or-members_from : (bytes : List ℕ) (n k j : ℕ) (d : Member) → j < n → get_or (members_from bytes n k) j d ≡ member_at bytes (k + j)
unfolding members_from
get_or-members_from bytes zero k j d below = absurd (omega arith)
get_or-members_from bytes (suc n) k zero d below = let e : k ≡ k + 0 = omega arith in ap (member_at bytes) e
get_or-members_from bytes (suc n) k (suc j) d below =
    let e : suc k + j ≡ k + suc j = omega arith in
    get_or-members_from bytes n (suc k) j d (omega arith) ∙ ap (member_at bytes) e

-- where they are all
get_or-members : (bytes : List ℕ) (n j : ℕ) (d : Member) → j < n → get_or (members_from bytes n 0) j d ≡ member_at bytes j
get_or-members bytes n j d below = let e : 0 + j ≡ j = omega arith in get_or-members_from bytes n 0 j d below ∙ ap (member_at bytes) e

-- the keys of a replica are what stands there
keys_stand : (bytes : List ℕ) (r c k at : ℕ) → at ≡ key_place bytes r k
    → drop at bytes ≡ concat (keys_from bytes r c k) ++ drop (at + 56 * c) bytes
unfolding keys_from key_at
keys_stand bytes r zero k at e = let none : at + 56 * 0 ≡ at = omega arith in rw none refl
keys_stand bytes r (suc c) k at e =
    let here : piece 56 bytes at ≡ piece 56 bytes (key_place bytes r k) = ap (piece 56 bytes) e in
    let next : at + 56 ≡ key_place bytes r (suc k) = omega (arith, e, key_steps bytes r k, key_steps bytes r (suc k)) in
    let end : at + 56 + 56 * c ≡ at + 56 * suc c = omega arith in
    taken bytes at 56 _ _ here (keys_stand bytes r c (suc k) (at + 56) next)
    ∙ sym (append_assoc (piece 56 bytes (key_place bytes r k)) (concat (keys_from bytes r c (suc k))) (drop (at + 56 + 56 * c) bytes))
    ∙ ap (λ (p : ℕ). concat (keys_from bytes r (suc c) k) ++ drop p bytes) end

-- where each member stands at its place, all of them are what stands behind the head
all_stand : (text_of : Member → List ℕ) (bytes : List ℕ) (n k : ℕ)
    → ((r : ℕ) → k ≤ r → r < k + n → drop (place_of bytes r) bytes ≡ text_of (member_at bytes r) ++ drop (place_of bytes (r + 1)) bytes)
    → length bytes ≡ place_of bytes (k + n)
    → drop (place_of bytes k) bytes ≡ flat_map text_of (members_from bytes n k)
unfolding members_from
all_stand text_of bytes zero k each long = let e : k + 0 ≡ k = omega arith in drop_all (place_of bytes k) bytes (omega (arith, long, ap (place_of bytes) e))
all_stand text_of bytes (suc n) k each long =
    let next : k + 1 ≡ suc k = omega arith in
    let end : suc k + n ≡ k + suc n = omega arith in
    each k (omega arith) (omega arith)
    ∙ ap (λ (t : List ℕ). text_of (member_at bytes k) ++ t) (
    ap (λ (m : ℕ). drop (place_of bytes m) bytes) next
    ∙ all_stand text_of bytes n (suc k) (λ r from below. each r (omega arith) (omega arith)) (long ∙ ap (place_of bytes) (sym end)))

-- ---- what is read is a committee

passed : (b : Bool) (r : CommitteeRefusal) → (if b then None else Some r) ≡ None → b ≡ true
passed true r e = refl
passed false r e = absurd cc

failed : (b : Bool) (r : CommitteeRefusal) → (if b then Some r else None) ≡ None → b ≡ false
failed true r e = absurd cc
failed false r e = refl

both_true : (a b : Bool) → (a && b) ≡ true → (a ≡ true) × (b ≡ true)
both_true true b e = (refl, e)
both_true false b e = absurd cc

and_true : (a b : Bool) → a ≡ true → b ≡ true → (a && b) ≡ true
and_true true b e f = f
and_true false b e f = absurd cc

whole_from : (len to : ℕ) → (nat_le 8 len && (len == to)) ≡ true → (8 ≤ len) × (len ≡ to)
whole_from len to e = (grind (arith, nat_tests), grind (arith, nat_tests))

count_from : (room keys : ℕ) → is_count room keys ≡ true → (1 ≤ keys) × (keys ≤ room)
count_from room keys e = (grind (arith, nat_tests), grind (arith, nat_tests))

size_from : (f n : ℕ) → is_of_size f n ≡ true → (1 ≤ f) × (f ≤ 10) × (n ≡ 3 * f + 1)
size_from f n e = (grind (arith, nat_tests), grind (arith, nat_tests), grind (arith, nat_tests))

weighted_size_from : (pad n : ℕ) → is_of_weighted_size pad n ≡ true → (pad ≡ 0) × (4 ≤ n) × (n ≤ 31)
weighted_size_from pad n e = (grind (arith, nat_tests), grind (arith, nat_tests), grind (arith, nat_tests))

positive : (w : ℕ) → (w == 0) ≡ false → 1 ≤ w
positive w e = grind (arith, nat_tests)

differ : (xs ys : List ℕ) → bytes_eq xs ys ≡ false → xs ≢ ys
differ xs ys e same = let t = (bytes_eq-Decides xs ys).1 same in absurd cc

-- where the format has no weights, the first magic stands there
plain_magic : (bytes : List ℕ) → has_format bytes ≡ true → has_weights bytes ≡ false → piece 4 bytes 0 ≡ codes "HSC1"
plain_magic bytes e p = let f : bytes_eq (codes "HSC1") (piece 4 bytes 0) ≡ true = subst (λ (b : Bool). (b || bytes_eq (codes "HSC1") (piece 4 bytes 0)) ≡ true) p e in sym (same_text _ _ (sym f))

weighted_magic : (bytes : List ℕ) → has_many_keys bytes ≡ false → has_weights bytes ≡ true → piece 4 bytes 0 ≡ codes "HSC2"
weighted_magic bytes o w = let f : bytes_eq (codes "HSC2") (piece 4 bytes 0) ≡ true = subst (λ (b : Bool). (b || bytes_eq (codes "HSC2") (piece 4 bytes 0)) ≡ true) o w in sym (same_text _ _ (sym f))

multikey_magic : (bytes : List ℕ) → has_many_keys bytes ≡ true → piece 4 bytes 0 ≡ codes "HSC3"
multikey_magic bytes m = sym (same_text _ _ (sym m))

plain_size : (bytes : List ℕ) → has_weights bytes ≡ false → has_size bytes ≡ true → is_of_size (number_at 2 bytes 4) (n_of bytes) ≡ true
plain_size bytes p e = subst (λ (b : Bool). (if b then is_of_weighted_size (number_at 2 bytes 4) (n_of bytes) else is_of_size (number_at 2 bytes 4) (n_of bytes)) ≡ true) p e

other_size : (bytes : List ℕ) → has_weights bytes ≡ true → has_size bytes ≡ true → is_of_weighted_size (number_at 2 bytes 4) (n_of bytes) ≡ true
other_size bytes w e = subst (λ (b : Bool). (if b then is_of_weighted_size (number_at 2 bytes 4) (n_of bytes) else is_of_size (number_at 2 bytes 4) (n_of bytes)) ≡ true) w e

-- so there are no more replicas than the most
pub few_replicas : (bytes : List ℕ) → has_size bytes ≡ true → (4 ≤ n_of bytes) × (n_of bytes ≤ 31)
few_replicas bytes e = elim (cases (has_weights bytes)) [
  | inl w ↦ let s = weighted_size_from (number_at 2 bytes 4) (n_of bytes) (other_size bytes w e) in (s.1, s.2)
  | inr p ↦ let s = size_from (number_at 2 bytes 4) (n_of bytes) (plain_size bytes p e) in (omega (arith, s.0, s.2), omega (arith, s.1, s.2))
]

-- what the program tells of a row of bytes
all_zeros : (xs : List ℕ) → All (λ b. b ≡ 0) xs → xs ≡ replicate (length xs) 0
all_zeros [] all = refl
all_zeros (x ∷ xs) all =
    let first : x ≡ 0 = all 0 0 (omega arith) in
    let rest = all_zeros xs (λ k d below. all (suc k) d (omega arith)) in
    ap (λ (y : ℕ). y ∷ xs) first ∙ ap (λ (ys : List ℕ). 0 ∷ ys) rest

none_else : (n : ℕ) → All (λ (b : ℕ). b ≡ 0) (replicate n 0)
none_else n k d below = get_or-replicate n k 0 d (omega (arith, length-replicate {A = ℕ} n 0))

pub zeros_told : (xs : List ℕ) (b : Bool) → (b ≡ true) ↔ All (λ x. x ≡ 0) xs → b ≡ are_zeros xs
unfolding are_zeros
zeros_told xs true exact = sym ((bytes_eq-Decides xs (replicate (length xs) 0)).1 (all_zeros xs (exact.0 refl)))
zeros_told xs false exact =
    sym (false_from_ne_true (bytes_eq xs (replicate (length xs) 0)) (λ t.
    let row = (bytes_eq-Decides xs (replicate (length xs) 0)).0 t in
    let ok = exact.1 (subst (All (λ x. x ≡ 0)) (sym row) (none_else (length xs))) in
    absurd cc))

-- one more of the same
pub same_more : (x k : ℕ) → replicate k x ++ x ∷ [] ≡ replicate (k + 1) x
same_more x k = replicate-append-replicate k 1 x

-- the counts that were judged fit the room
pub counts_fit : (bytes : List ℕ) (n : ℕ) → first_of (bad_count bytes) n ≡ None → CountsFit bytes n
counts_fit bytes n none r below =
    (count_from (room_of bytes) (keys_of bytes r) (both_true _ _ (passed _ _ (none_at (bad_count bytes) n r none below))).0).1

-- what the tests of a committee find
record Found (bytes : List ℕ) : Type 0 where
  long : length bytes ≡ place_of bytes (n_of bytes)
  eight : 8 ≤ length bytes
  format : has_format bytes ≡ true
  size : has_size bytes ≡ true
  counts : (r : ℕ) → r < n_of bytes → (1 ≤ keys_of bytes r) × (keys_of bytes r ≤ room_of bytes)
  zeros : (r : ℕ) → r < n_of bytes → are_zeros (unused_at bytes r) ≡ true
  keys : (r k : ℕ) → r < n_of bytes → k < keys_of bytes r → IsPublicKey (key_at bytes r k)
  own : (r j k : ℕ) → r < n_of bytes → j < k → k < keys_of bytes r → key_at bytes r j ≢ key_at bytes r k
  apart : (r s j k : ℕ) → r < s → s < n_of bytes → j < keys_of bytes r → k < keys_of bytes s → key_at bytes r j ≢ key_at bytes s k
  weights : (r : ℕ) → r < n_of bytes → 1 ≤ weight_at bytes r

within : (bytes : List ℕ) (r : ℕ) → length bytes ≡ place_of bytes (n_of bytes) → r < n_of bytes → place_of bytes (r + 1) ≤ length bytes
within bytes r long below = omega (arith, place_below bytes r (n_of bytes) below, long)

found_of : (bytes : List ℕ) → committee_in bytes ≡ Ok bytes → Found bytes
unfolding committee_in
found_of bytes e =
    let a = need_ok _ _ _ bytes e in
    let b = need_ok _ _ _ bytes a.1 in
    let c = need_ok _ _ _ bytes b.1 in
    let no_count = unless_ok _ _ bytes c.1 in
    let no_bad = unless_ok _ _ bytes no_count.1 in
    let no_twin = unless_ok _ _ bytes no_bad.1 in
    let no_zero = unless_ok _ _ bytes no_twin.1 in
    let n = n_of bytes in
    let whole = whole_from (length bytes) (place_of bytes n) a.0 in
    let counted : (r : ℕ) → r < n → (is_count (room_of bytes) (keys_of bytes r) ≡ true) × (are_zeros (unused_at bytes r) ≡ true) =
    λ r below. both_true _ _ (passed _ _ (none_at (bad_count bytes) n r no_count.0 below)) in
    let counts : (r : ℕ) → r < n → (1 ≤ keys_of bytes r) × (keys_of bytes r ≤ room_of bytes) =
    λ r below. count_from (room_of bytes) (keys_of bytes r) (counted r below).0 in
    let no_twin_at : (s k : ℕ) → s < n → k < keys_of bytes s → twin_of bytes s k ≡ None =
    λ s k below has. none_at (twin_of bytes s) (keys_of bytes s) k (none_at (first_twin_of bytes) n s no_twin.0 below) has in
    record {
      long = whole.1;
      eight = whole.0;
      format = b.0;
      size = c.0;
      counts = counts;
      zeros = λ r below. (counted r below).1;
      keys = λ r k below has.
          public_key (key_at bytes r k) (length-key_at bytes r k (within bytes r whole.1 below) (omega (arith, (counts r below).1)))
          (passed _ _ (none_at (bad_key bytes r) (keys_of bytes r) k (none_at (bad_key_of bytes) n r no_bad.0 below) has));
      own = λ r j k below before has.
          differ _ _ (failed _ _ (none_at (same_key bytes r k r) k j (both_none _ _ (no_twin_at r k below has)).1 before));
      apart = λ r s j k before below has_j has_k.
          differ _ _ (failed _ _ (none_at (same_key bytes s k r) (keys_of bytes r) j (none_at (same_key_of bytes s k) s r (both_none _ _ (no_twin_at s k below has_k)).0 before) has_j));
      weights = λ r below. positive (weight_at bytes r) (failed _ _ (none_at (no_weight bytes) n r no_zero.0 below));
    }

-- ---- the members are spelled by the bytes

all_long : {bytes : List ℕ} → Found bytes → length bytes ≡ place_of bytes (0 + n_of bytes)
all_long {bytes} is = let e : 0 + n_of bytes ≡ n_of bytes = omega arith in is.long ∙ ap (place_of bytes) (sym e)

-- the head of a text, and what stands behind it
heads : (bytes magic size count rest : List ℕ) → piece 4 bytes 0 ≡ magic → piece 2 bytes 4 ≡ size → piece 2 bytes 6 ≡ count → drop 8 bytes ≡ rest
    → bytes ≡ magic ++ (size ++ (count ++ rest))
heads bytes magic size count rest a b c d = taken bytes 0 4 magic _ a (taken bytes 4 2 size _ b (taken bytes 6 2 count rest c d))

plain_stand : (bytes : List ℕ) (r : ℕ) → has_many_keys bytes ≡ false → has_weights bytes ≡ false
    → drop (place_of bytes r) bytes ≡ keys_text (member_at bytes r) ++ drop (place_of bytes (r + 1)) bytes
plain_stand bytes r o p =
    let one = keys_one bytes r o in
    let at : place_of bytes r ≡ key_place bytes r 0 = omega (arith, key_plain bytes r 0 o p, place_plain bytes r o p) in
    let end : place_of bytes r + 56 * keys_of bytes r ≡ place_of bytes (r + 1) = omega (arith, one, place_plain bytes r o p, place_plain bytes (r + 1) o p) in
    keys_stand bytes r (keys_of bytes r) 0 (place_of bytes r) at ∙ ap (λ (q : ℕ). keys_text (member_at bytes r) ++ drop q bytes) end

-- a weight stands before what comes next
weight_stands : (bytes : List ℕ) (r : ℕ) → AreBytes bytes → has_weights bytes ≡ true → place_of bytes r + 4 ≤ length bytes
    → piece 4 bytes (place_of bytes r) ≡ big_bytes 4 (weight_at bytes r)
weight_stands bytes r fit w long = piece-number_at 4 bytes (place_of bytes r) fit long ∙ ap (big_bytes 4) (sym (weight_read bytes r w))

weighted_stand : (bytes : List ℕ) (r : ℕ) → AreBytes bytes → has_many_keys bytes ≡ false → has_weights bytes ≡ true → place_of bytes (r + 1) ≤ length bytes
    → drop (place_of bytes r) bytes ≡ member_text (member_at bytes r) ++ drop (place_of bytes (r + 1)) bytes
weighted_stand bytes r fit o w long =
    let one = keys_one bytes r o in
    let here = place_weighted bytes r o w in
    let next = place_weighted bytes (r + 1) o w in
    let at : place_of bytes r + 4 ≡ key_place bytes r 0 = omega (arith, key_weighted bytes r 0 o w, here) in
    let end : place_of bytes r + 4 + 56 * keys_of bytes r ≡ place_of bytes (r + 1) = omega (arith, one, here, next) in
    taken bytes (place_of bytes r) 4 _ _ (weight_stands bytes r fit w (omega (arith, long, here, next)))
    (keys_stand bytes r (keys_of bytes r) 0 (place_of bytes r + 4) at ∙ ap (λ (q : ℕ). keys_text (member_at bytes r) ++ drop q bytes) end)
    ∙ sym (append_assoc (big_bytes 4 (weight_at bytes r)) (keys_text (member_at bytes r)) (drop (place_of bytes (r + 1)) bytes))

-- zeros are a row of zeros
zeros_are : (xs : List ℕ) → are_zeros xs ≡ true → xs ≡ replicate (length xs) 0
unfolding are_zeros
zeros_are xs e = (bytes_eq-Decides xs (replicate (length xs) 0)).0 e

unused_stand : (bytes : List ℕ) (r : ℕ) → has_many_keys bytes ≡ true → keys_of bytes r ≤ 4 → place_of bytes (r + 1) ≤ length bytes → are_zeros (unused_at bytes r) ≡ true
    → piece (56 * (4 - keys_of bytes r)) bytes (key_place bytes r (keys_of bytes r)) ≡ replicate (56 * (4 - keys_of bytes r)) 0
unfolding unused_at
unused_stand bytes r m few long zeros =
    let room = room_most bytes m in
    let size : ℕ = 56 * (4 - keys_of bytes r) in
    let is : unused_at bytes r ≡ piece size bytes (key_place bytes r (keys_of bytes r)) = rw room refl in
    let whole : length (piece size bytes (key_place bytes r (keys_of bytes r))) ≡ size =
    length-piece size bytes (key_place bytes r (keys_of bytes r)) (omega (arith, key_multikey bytes r (keys_of bytes r) m, place_multikey bytes (r + 1) m)) in
    sym is ∙ zeros_are (unused_at bytes r) zeros ∙ ap (λ (k : ℕ). replicate k 0) (ap length is ∙ whole)

multikey_stand : (bytes : List ℕ) (r : ℕ) → AreBytes bytes → has_many_keys bytes ≡ true → has_weights bytes ≡ true → place_of bytes (r + 1) ≤ length bytes
    → keys_of bytes r ≤ 4 → are_zeros (unused_at bytes r) ≡ true
    → drop (place_of bytes r) bytes ≡ multikey_member_text (member_at bytes r) ++ drop (place_of bytes (r + 1)) bytes
multikey_stand bytes r fit m w long few zeros =
    let c = keys_of bytes r in
    let keys = (member_at bytes r).keys in
    let as_many : length keys ≡ c = length-keys_from bytes r c 0 in
    let here = place_multikey bytes r m in
    let next = place_multikey bytes (r + 1) m in
    let at : place_of bytes r + 4 + 4 ≡ key_place bytes r 0 = omega (arith, key_multikey bytes r 0 m, here) in
    let past : place_of bytes r + 4 + 4 + 56 * c ≡ key_place bytes r c = omega (arith, key_multikey bytes r c m, here) in
    let end : key_place bytes r c + 56 * (4 - c) ≡ place_of bytes (r + 1) = omega (arith, key_multikey bytes r c m, next) in
    let weight : List ℕ = big_bytes 4 (weight_at bytes r) in
    let count : List ℕ = big_bytes 4 (length keys) in
    let zero_row : List ℕ = replicate (56 * (4 - length keys)) 0 in
    let after : List ℕ = drop (place_of bytes (r + 1)) bytes in
    let count_stands : piece 4 bytes (place_of bytes r + 4) ≡ count =
    piece-number_at 4 bytes (place_of bytes r + 4) fit (omega (arith, long, here, next)) ∙ ap (big_bytes 4) (sym (keys_read bytes r m) ∙ sym as_many) in
    let zeros_stand : drop (key_place bytes r c) bytes ≡ zero_row ++ after =
    taken bytes (key_place bytes r c) (56 * (4 - c)) _ _ (unused_stand bytes r m few long zeros ∙ ap (λ (k : ℕ). replicate (56 * (4 - k)) 0) (sym as_many)) (ap (λ (q : ℕ). drop q bytes) end) in
    let slots : drop (place_of bytes r + 4 + 4) bytes ≡ slots_text keys ++ after =
    keys_stand bytes r c 0 (place_of bytes r + 4 + 4) at
    ∙ ap (λ (t : List ℕ). concat keys ++ t) (ap (λ (q : ℕ). drop q bytes) past ∙ zeros_stand)
    ∙ sym (append_assoc (concat keys) zero_row after) in
    taken bytes (place_of bytes r) 4 weight _ (weight_stands bytes r fit w (omega (arith, long, here, next)))
    (taken bytes (place_of bytes r + 4) 4 count _ count_stands slots)
    ∙ ap (λ (t : List ℕ). weight ++ t) (sym (append_assoc count (slots_text keys) after))
    ∙ sym (append_assoc weight (count ++ slots_text keys) after)

plain_found : (bytes : List ℕ) → AreBytes bytes → Found bytes → has_many_keys bytes ≡ false → has_weights bytes ≡ false → CountOnce (members_from bytes (n_of bytes) 0) bytes
unfolding committee_text
plain_found bytes fit is o p =
    let n = n_of bytes in
    let members = members_from bytes n 0 in
    let count : length members ≡ n = length-members_from bytes n 0 in
    let one : HaveOneKey members = λ k d below.
    ap (λ (m : Member). length m.keys) (get_or-members bytes n k d (omega arith)) ∙ length-keys_from bytes k (keys_of bytes k) 0 ∙ keys_one bytes k o in
    let as_many : length (flat_map (λ m. m.keys) members) ≡ n = one_key_each members one ∙ count in
    let size = size_from (number_at 2 bytes 4) n (plain_size bytes p is.size) in
    let behind_head : drop 8 bytes ≡ flat_map keys_text members =
    ap (λ (q : ℕ). drop q bytes) (sym (place_plain bytes 0 o p)) ∙ all_stand keys_text bytes n 0 (λ r from below. plain_stand bytes r o p) (all_long is) in
    record {
      f = number_at 2 bytes 4;
      least = size.0;
      most = size.1;
      size = count ∙ size.2;
      weights = λ k d below. ap (λ (m : Member). m.weight) (get_or-members bytes n k d (omega arith)) ∙ weight_plain bytes k p;
      one_key = one;
      text =
          heads bytes (codes "HSC1") _ _ _ (plain_magic bytes is.format p) (piece-number_at 2 bytes 4 fit (omega (arith, is.eight)))
          (piece-number_at 2 bytes 6 fit (omega (arith, is.eight)) ∙ ap (big_bytes 2) (sym as_many))
          (behind_head ∙ sym (concat_keys members));
    }

weights_found : (bytes : List ℕ) → AreBytes bytes → Found bytes → has_weights bytes ≡ true → AreWeighted (members_from bytes (n_of bytes) 0)
weights_found bytes fit is w k d inside =
    let n = n_of bytes in
    let count = length-members_from bytes n 0 in
    subst (λ (m : Member). (1 ≤ m.weight) × (m.weight < 2 ^ 32)) (sym (get_or-members bytes n k d (omega arith)))
    (is.weights k (omega arith), subst (λ (x : ℕ). x < 2 ^ 32) (sym (weight_read bytes k w)) (number_below 4 bytes (place_of bytes k) fit))

weighted_found : (bytes : List ℕ) → AreBytes bytes → Found bytes → has_many_keys bytes ≡ false → has_weights bytes ≡ true → HaveWeights (members_from bytes (n_of bytes) 0) bytes
unfolding weighted_text
weighted_found bytes fit is o w =
    let n = n_of bytes in
    let members = members_from bytes n 0 in
    let count : length members ≡ n = length-members_from bytes n 0 in
    let size = weighted_size_from (number_at 2 bytes 4) n (other_size bytes w is.size) in
    let behind_head : drop 8 bytes ≡ flat_map member_text members =
    ap (λ (q : ℕ). drop q bytes) (sym (place_weighted bytes 0 o w))
    ∙ all_stand member_text bytes n 0 (λ r from below. weighted_stand bytes r fit o w (within bytes r is.long (omega arith))) (all_long is) in
    record {
      least = omega (arith, size.1, count);
      most = omega (arith, size.2, count);
      weights = weights_found bytes fit is w;
      one_key = λ k d below.
          ap (λ (m : Member). length m.keys) (get_or-members bytes n k d (omega arith)) ∙ length-keys_from bytes k (keys_of bytes k) 0 ∙ keys_one bytes k o;
      text =
          heads bytes (codes "HSC2") _ _ _ (weighted_magic bytes o w) (piece-number_at 2 bytes 4 fit (omega (arith, is.eight)) ∙ ap (big_bytes 2) size.0)
          (piece-number_at 2 bytes 6 fit (omega (arith, is.eight)) ∙ ap (big_bytes 2) (sym count)) behind_head;
    }

multikey_found : (bytes : List ℕ) → AreBytes bytes → Found bytes → has_many_keys bytes ≡ true → has_weights bytes ≡ true → HaveManyKeys (members_from bytes (n_of bytes) 0) bytes
unfolding multikey_text
multikey_found bytes fit is m w =
    let n = n_of bytes in
    let members = members_from bytes n 0 in
    let count : length members ≡ n = length-members_from bytes n 0 in
    let room = room_most bytes m in
    let size = weighted_size_from (number_at 2 bytes 4) n (other_size bytes w is.size) in
    let behind_head : drop 8 bytes ≡ flat_map multikey_member_text members =
    ap (λ (q : ℕ). drop q bytes) (sym (place_multikey bytes 0 m))
    ∙ all_stand multikey_member_text bytes n 0 (λ r from below.
    multikey_stand bytes r fit m w (within bytes r is.long (omega arith)) (omega (arith, (is.counts r (omega arith)).1)) (is.zeros r (omega arith))) (all_long is) in
    record {
      least = omega (arith, size.1, count);
      most = omega (arith, size.2, count);
      weights = weights_found bytes fit is w;
      counts = λ k d below.
          let here : length (get_or members k d).keys ≡ keys_of bytes k =
          ap (λ (o : Member). length o.keys) (get_or-members bytes n k d (omega arith)) ∙ length-keys_from bytes k (keys_of bytes k) 0 in
          let counted = is.counts k (omega arith) in
          (omega (arith, counted.0, here), omega (arith, counted.1, here, room));
      text =
          heads bytes (codes "HSC3") _ _ _ (multikey_magic bytes m) (piece-number_at 2 bytes 4 fit (omega (arith, is.eight)) ∙ ap (big_bytes 2) size.0)
          (piece-number_at 2 bytes 6 fit (omega (arith, is.eight)) ∙ ap (big_bytes 2) (sym count)) behind_head;
    }

keys_found : (bytes : List ℕ) → Found bytes → HaveKeys (members_from bytes (n_of bytes) 0)
keys_found bytes is =
    let n = n_of bytes in
    let members = members_from bytes n 0 in
    let count : length members ≡ n = length-members_from bytes n 0 in
    let at : (r : ℕ) (d : Member) → r < n → get_or members r d ≡ member_at bytes r = get_or-members bytes n in
    let long : (r : ℕ) → length (member_at bytes r).keys ≡ keys_of bytes r = λ r. length-keys_from bytes r (keys_of bytes r) 0 in
    record {
      public_keys = λ r d below. subst (λ (m : Member). All IsPublicKey m.keys) (sym (at r d (omega arith))) (λ k e has.
          let fits = long r in
          subst IsPublicKey (sym (get_or-keys bytes r k e (omega arith))) (is.keys r k (omega arith) (omega arith)));
      own = λ r d below. subst (λ (m : Member). AllPairs (λ key other. key ≢ other) m.keys) (sym (at r d (omega arith))) (λ j k e before has.
          let fits = long r in
          λ same. is.own r j k (omega arith) before (omega arith) (sym (get_or-keys bytes r j e (omega arith)) ∙ same ∙ get_or-keys bytes r k e (omega arith)));
      different = λ r s d before below.
          subst (λ (m : Member). HaveDifferentKeys m (get_or members s d)) (sym (at r d (omega arith))) (
          subst (λ (o : Member). HaveDifferentKeys (member_at bytes r) o) (sym (at s d (omega arith))) (λ j e has_j k f has_k.
          let fits_r = long r in
          let fits_s = long s in
          λ same. is.apart r s j k before (omega arith) (omega arith) (omega arith) (sym (get_or-keys bytes r j e (omega arith)) ∙ same ∙ get_or-keys bytes s k f (omega arith))));
    }

pub committee_found : (bytes : List ℕ) → AreBytes bytes → committee_in bytes ≡ Ok bytes → IsCommittee bytes
committee_found bytes fit e =
    let is = found_of bytes e in
    record {
      members = members_from bytes (n_of bytes) 0;
      spelled = record {
        keys = keys_found bytes is;
        text = elim (format_of bytes) [
          | plain o p ↦ inl (plain_found bytes fit is o p)
          | weighted o w ↦ inr (inl (weighted_found bytes fit is o w))
          | multikey m w ↦ inr (inr (multikey_found bytes fit is m w))
        ];
      };
    }

-- ---- a committee is read

-- the parts of a committee's text
pub record Parts (members : List Member) (bytes : List ℕ) : Type 0 where
  pub long : length bytes ≡ place_of bytes (length members)
  pub n_here : n_of bytes ≡ length members
  pub least : 4 ≤ length members
  pub most : length members ≤ 31
  pub format : has_format bytes ≡ true
  pub size : has_size bytes ≡ true
  pub weights_here : (r : ℕ) (d : Member) → r < length members → weight_at bytes r ≡ (get_or members r d).weight
  pub positive : (r : ℕ) → r < length members → 1 ≤ weight_at bytes r
  pub fits : (r : ℕ) → r < length members → weight_at bytes r < 2 ^ 32
  pub counts_here : (r : ℕ) (d : Member) → r < length members → keys_of bytes r ≡ length (get_or members r d).keys
  pub counts : (r : ℕ) → r < length members → (1 ≤ keys_of bytes r) × (keys_of bytes r ≤ room_of bytes)
  pub zeros : (r : ℕ) → r < length members → are_zeros (unused_at bytes r) ≡ true
  pub keys_here : (r k : ℕ) (d : Member) (e : List ℕ) → r < length members → k < length (get_or members r d).keys → key_at bytes r k ≡ get_or (get_or members r d).keys k e

HaveLongKeys : List Member → Type 0
HaveLongKeys members = All (λ m. All (λ key. length key ≡ 56) m.keys) members

all_long_keys : (members : List Member) → HaveKeys members → HaveLongKeys members
unfolding HaveLongKeys
all_long_keys members is r d below k e has = (is.public_keys r d below k e has).long

-- the keys of the member at a place
long_at : (members : List Member) → HaveLongKeys members → (r : ℕ) (d : Member) → r < length members → All (λ key. length key ≡ 56) (get_or members r d).keys
unfolding HaveLongKeys
long_at members long r d below = long r d below

key_spelled_at : (bytes : List ℕ) (r k : ℕ) → key_at bytes r k ≡ piece 56 bytes (key_place bytes r k)
unfolding key_at
key_spelled_at bytes r k = refl

size_true : (f n : ℕ) → 1 ≤ f → f ≤ 10 → n ≡ 3 * f + 1 → is_of_size f n ≡ true
size_true f n a b e = grind (arith, nat_tests)

weighted_size_true : (pad n : ℕ) → pad ≡ 0 → 4 ≤ n → n ≤ 31 → is_of_weighted_size pad n ≡ true
weighted_size_true pad n e a b = grind (arith, nat_tests)

pub count_true : (room keys : ℕ) → 1 ≤ keys → keys ≤ room → is_count room keys ≡ true
count_true room keys a b = grind (arith, nat_tests)

-- keys one after the other
length-concat : (keys : List (List ℕ)) → All (λ key. length key ≡ 56) keys → length (concat keys) ≡ 56 * length keys
length-concat [] long = refl
length-concat (key ∷ keys) long =
    let rest = length-concat keys (λ k d below. long (suc k) d (omega arith)) in
    let first = long 0 key (omega arith) in
    omega (arith, length-append key (concat keys))

key_stands : (keys : List (List ℕ)) (text rest : List ℕ) (at k : ℕ) (d : List ℕ) → All (λ key. length key ≡ 56) keys
    → drop at text ≡ concat keys ++ rest → k < length keys → piece 56 text (at + 56 * k) ≡ get_or keys k d
key_stands [] text rest at k d long here below = absurd (omega arith)
key_stands (key ∷ keys) text rest at zero d long here below =
    let e : at + 56 * 0 ≡ at = omega arith in
    ap (piece 56 text) e ∙ front text at 56 key _ (here ∙ append_assoc key (concat keys) rest) (long 0 key (omega arith))
key_stands (key ∷ keys) text rest at (suc k) d long here below =
    let e : at + 56 * suc k ≡ at + 56 + 56 * k = omega arith in
    ap (piece 56 text) e
    ∙ key_stands keys text rest (at + 56) k d (λ j f has. long (suc j) f (omega arith))
    (behind text at 56 key _ (here ∙ append_assoc key (concat keys) rest) (long 0 key (omega arith))) (omega arith)

-- members of one length each, one after the other
length-members : (text_of : Member → List ℕ) (width : ℕ) (members : List Member) → All (λ m. length (text_of m) ≡ width) members
    → length (flat_map text_of members) ≡ length members * width
length-members text_of width [] long = let e : 0 ≡ 0 * width = omega arith in e
length-members text_of width (m ∷ ms) long =
    let rest = length-members text_of width ms (λ k d below. long (suc k) d (omega arith)) in
    let first = long 0 m (omega arith) in
    length-append (text_of m) (flat_map text_of ms) ∙ rw (first, rest) (add_comm width (length ms * width) ∙ sym (suc-mul (length ms) width))

member_stands : (text_of : Member → List ℕ) (width : ℕ) (members : List Member) (text : List ℕ) (at r : ℕ) (d : Member) → All (λ m. length (text_of m) ≡ width) members
    → drop at text ≡ flat_map text_of members → r < length members
    → (rest : List ℕ) × (drop (at + r * width) text ≡ text_of (get_or members r d) ++ rest)
member_stands text_of width [] text at r d long here below = absurd (omega arith)
member_stands text_of width (m ∷ ms) text at zero d long here below =
    let e : at + 0 * width ≡ at = omega arith in
    (flat_map text_of ms, ap (λ (p : ℕ). drop p text) e ∙ here)
member_stands text_of width (m ∷ ms) text at (suc r) d long here below =
    let e : at + suc r * width ≡ at + width + r * width = omega (arith, suc-mul r width) in
    let rest = member_stands text_of width ms text (at + width) r d (λ j f has. long (suc j) f (omega arith)) (behind text at width (text_of m) _ here (long 0 m (omega arith))) (omega arith) in
    (rest.0, ap (λ (p : ℕ). drop p text) e ∙ rest.1)

length-four : (x : ℕ) → length (big_bytes 4 x) ≡ 4
length-four x = refl

many_plain : (f : ℕ) (keys : List (List ℕ)) → has_many_keys (committee_text f keys) ≡ false
unfolding committee_text
many_plain f keys = refl

weights_plain : (f : ℕ) (keys : List (List ℕ)) → has_weights (committee_text f keys) ≡ false
unfolding committee_text
weights_plain f keys = refl

plain_again : (f : ℕ) (keys : List (List ℕ)) → bytes_eq (codes "HSC1") (piece 4 (committee_text f keys) 0) ≡ true
unfolding committee_text
plain_again f keys = refl

many_weighted : (members : List Member) → has_many_keys (weighted_text members) ≡ false
unfolding weighted_text
many_weighted members = refl

weights_weighted : (members : List Member) → has_weights (weighted_text members) ≡ true
unfolding weighted_text
weights_weighted members = refl

many_multikey : (members : List Member) → has_many_keys (multikey_text members) ≡ true
unfolding multikey_text
many_multikey members = refl

weights_multikey : (members : List Member) → has_weights (multikey_text members) ≡ true
unfolding multikey_text
weights_multikey members = refl

-- where there is room for one key nothing stands behind it
no_unused : (bytes : List ℕ) (r : ℕ) → has_many_keys bytes ≡ false → are_zeros (unused_at bytes r) ≡ true
unfolding unused_at are_zeros
no_unused bytes r o =
    let none : 56 * (room_of bytes - keys_of bytes r) ≡ 0 = omega (arith, room_one bytes o, keys_one bytes r o) in
    rw none refl

parts_plain : (members : List Member) → HaveKeys members → (f : ℕ) → 1 ≤ f → f ≤ 10 → length members ≡ 3 * f + 1
    → All (λ m. m.weight ≡ 1) members → HaveOneKey members → Parts members (committee_text f (flat_map (λ m. m.keys) members))
unfolding committee_text
parts_plain members are f least most size weights one =
    let keys = flat_map (λ m. m.keys) members in
    let text = committee_text f keys in
    let n = length members in
    let as_many : length keys ≡ n = one_key_each members one in
    let o : has_many_keys text ≡ false = many_plain f keys in
    let p : has_weights text ≡ false = weights_plain f keys in
    let long = all_long_keys members are in
    let each : All (λ m. length (keys_text m) ≡ 56) members = λ r d below.
    let first = one r d below in let whole = length-concat (get_or members r d).keys (long_at members long r d below) in omega arith in
    let total = length-members keys_text 56 members each in
    let spelled : length (concat keys) ≡ length (flat_map keys_text members) = ap length (concat_keys members) in
    let f_here : number_at 2 text 4 ≡ f = number_again 2 text 4 f (omega arith) refl in
    let n_here : n_of text ≡ n = number_again 2 text 6 (length keys) (omega arith) refl ∙ as_many in
    let is_so : is_of_size (number_at 2 text 4) (n_of text) ≡ true =
    size_true (number_at 2 text 4) (n_of text) (omega arith) (omega arith) (omega arith) in
    record {
      long = omega (arith, place_plain text n o p);
      n_here = n_here;
      least = omega arith;
      most = omega arith;
      format = or_right (has_weights text) (bytes_eq (codes "HSC1") (piece 4 text 0)) (plain_again f keys);
      size = subst (λ (b : Bool). (if b then is_of_weighted_size (number_at 2 text 4) (n_of text) else is_of_size (number_at 2 text 4) (n_of text)) ≡ true) (sym p) is_so;
      weights_here = λ r d below. weight_plain text r p ∙ sym (weights r d below);
      positive = λ r below. omega (arith, weight_plain text r p);
      fits = λ r below. omega (arith, weight_plain text r p);
      counts_here = λ r d below. keys_one text r o ∙ sym (one r d below);
      counts = λ r below. let k = keys_one text r o in let room = room_one text o in (omega arith, omega arith);
      zeros = λ r below. no_unused text r o;
      keys_here = λ r k d e below has.
          let stands = member_stands keys_text 56 members text 8 r d each (concat_keys members) below in
          let place : 8 + r * 56 + 56 * k ≡ key_place text r k = omega (arith, key_plain text r k o p) in
          key_spelled_at text r k ∙ ap (piece 56 text) (sym place)
          ∙ key_stands (get_or members r d).keys text stands.0 (8 + r * 56) k e (long_at members long r d below) stands.1 has;
    }

parts_weighted : (members : List Member) → HaveKeys members → 4 ≤ length members → length members ≤ 31 → AreWeighted members → HaveOneKey members
    → Parts members (weighted_text members)
unfolding weighted_text
parts_weighted members are least most weights one =
    let text = weighted_text members in
    let n = length members in
    let o : has_many_keys text ≡ false = many_weighted members in
    let w : has_weights text ≡ true = weights_weighted members in
    let long = all_long_keys members are in
    let each : All (λ m. length (member_text m) ≡ 60) members = λ r d below.
    let m = get_or members r d in
    let first = one r d below in
    let whole = length-concat m.keys (long_at members long r d below) in
    omega (arith, length-append (big_bytes 4 m.weight) (concat m.keys), length-four m.weight) in
    let total = length-members member_text 60 members each in
    let pad : number_at 2 text 4 ≡ 0 = number_again 2 text 4 0 (omega arith) refl in
    let n_here : n_of text ≡ n = number_again 2 text 6 n (omega arith) refl in
    let is_so : is_of_weighted_size (number_at 2 text 4) (n_of text) ≡ true =
    weighted_size_true (number_at 2 text 4) (n_of text) pad (omega arith) (omega arith) in
    let split : (r : ℕ) (d : Member) → r < n → (rest : List ℕ) × (drop (8 + r * 60) text ≡ big_bytes 4 (get_or members r d).weight ++ (concat (get_or members r d).keys ++ rest)) =
    λ r d below.
    let m = get_or members r d in
    let stands = member_stands member_text 60 members text 8 r d each refl below in
    (stands.0, stands.1 ∙ append_assoc (big_bytes 4 m.weight) (concat m.keys) stands.0) in
    let weight_here : (r : ℕ) (d : Member) → r < n → weight_at text r ≡ (get_or members r d).weight =
    λ r d below.
    let place : place_of text r ≡ 8 + r * 60 = omega (arith, place_weighted text r o w) in
    weight_read text r w ∙ ap (number_at 4 text) place
    ∙ number_again 4 text (8 + r * 60) (get_or members r d).weight (weights r d below).1 (front text (8 + r * 60) 4 (big_bytes 4 (get_or members r d).weight) _ (split r d below).1 refl) in
    record {
      long = omega (arith, place_weighted text n o w);
      n_here = n_here;
      least = least;
      most = most;
      format = or_left (has_weights text) (bytes_eq (codes "HSC1") (piece 4 text 0)) w;
      size = subst (λ (b : Bool). (if b then is_of_weighted_size (number_at 2 text 4) (n_of text) else is_of_size (number_at 2 text 4) (n_of text)) ≡ true) (sym w) is_so;
      weights_here = weight_here;
      positive = λ r below. subst (λ (x : ℕ). 1 ≤ x) (sym (weight_here r some_member below)) (weights r some_member below).0;
      fits = λ r below. subst (λ (x : ℕ). x < 2 ^ 32) (sym (weight_here r some_member below)) (weights r some_member below).1;
      counts_here = λ r d below. keys_one text r o ∙ sym (one r d below);
      counts = λ r below. let k = keys_one text r o in let room = room_one text o in (omega arith, omega arith);
      zeros = λ r below. no_unused text r o;
      keys_here = λ r k d e below has.
          let m = get_or members r d in
          let place : 8 + r * 60 + 4 + 56 * k ≡ key_place text r k = omega (arith, key_weighted text r k o w) in
          let past = behind text (8 + r * 60) 4 (big_bytes 4 m.weight) _ (split r d below).1 refl in
          key_spelled_at text r k ∙ ap (piece 56 text) (sym place)
          ∙ key_stands m.keys text (split r d below).0 (8 + r * 60 + 4) k e (long_at members long r d below) past has;
    }

-- a row of zeros is all zeros
zeros_again : (n : ℕ) → are_zeros (replicate n 0) ≡ true
unfolding are_zeros
zeros_again n = (bytes_eq-Decides (replicate n 0) (replicate (length (replicate n 0)) 0)).1 (ap (λ (k : ℕ). replicate k 0) (sym (length-replicate n 0)))

multikey_zeros : (members : List Member) (text : List ℕ) (r : ℕ) → has_many_keys text ≡ true → HaveLongKeys members
    → keys_of text r ≡ length (get_or members r some_member).keys → r < length members → (rest : List ℕ)
    → drop (8 + r * 232 + 4 + 4) text ≡ concat (get_or members r some_member).keys ++ (replicate (56 * (4 - length (get_or members r some_member).keys)) 0 ++ rest)
    → are_zeros (unused_at text r) ≡ true
unfolding unused_at
multikey_zeros members text r m3 long here below rest past =
    let keys = (get_or members r some_member).keys in
    let c = length keys in
    let room = room_most text m3 in
    let whole : length (concat keys) ≡ 56 * c = length-concat keys (long_at members long r some_member below) in
    let size : 56 * (room_of text - keys_of text r) ≡ 56 * (4 - c) = omega arith in
    let place : key_place text r (keys_of text r) ≡ 8 + r * 232 + 4 + 4 + 56 * c = omega (arith, key_multikey text r (keys_of text r) m3) in
    let behind_keys : drop (8 + r * 232 + 4 + 4 + 56 * c) text ≡ replicate (56 * (4 - c)) 0 ++ rest = behind text (8 + r * 232 + 4 + 4) (56 * c) (concat keys) _ past whole in
    let is : unused_at text r ≡ replicate (56 * (4 - c)) 0 =
    rw (size, place) (front text (8 + r * 232 + 4 + 4 + 56 * c) (56 * (4 - c)) (replicate (56 * (4 - c)) 0) rest behind_keys (length-replicate (56 * (4 - c)) 0)) in
    subst (λ (xs : List ℕ). are_zeros xs ≡ true) (sym is) (zeros_again (56 * (4 - c)))

parts_multikey : (members : List Member) → HaveKeys members → 4 ≤ length members → length members ≤ 31 → AreWeighted members
    → All (λ m. (1 ≤ length m.keys) × (length m.keys ≤ 4)) members → Parts members (multikey_text members)
unfolding multikey_text
parts_multikey members are least most weights counted =
    let text = multikey_text members in
    let n = length members in
    let m3 : has_many_keys text ≡ true = many_multikey members in
    let w : has_weights text ≡ true = weights_multikey members in
    let room = room_most text m3 in
    let long = all_long_keys members are in
    let each : All (λ m. length (multikey_member_text m) ≡ 232) members = λ r d below.
    let m = get_or members r d in
    let few = (counted r d below).1 in
    let whole = length-concat m.keys (long_at members long r d below) in
    omega (
      arith,
      length-append (big_bytes 4 m.weight) (big_bytes 4 (length m.keys) ++ slots_text m.keys),
      length-four m.weight,
      length-append (big_bytes 4 (length m.keys)) (slots_text m.keys),
      length-four (length m.keys),
      length-append (concat m.keys) (replicate (56 * (4 - length m.keys)) 0),
      length-replicate {A = ℕ} (56 * (4 - length m.keys)) 0,
    ) in
    let total = length-members multikey_member_text 232 members each in
    let pad : number_at 2 text 4 ≡ 0 = number_again 2 text 4 0 (omega arith) refl in
    let n_here : n_of text ≡ n = number_again 2 text 6 n (omega arith) refl in
    let is_so : is_of_weighted_size (number_at 2 text 4) (n_of text) ≡ true =
    weighted_size_true (number_at 2 text 4) (n_of text) pad (omega arith) (omega arith) in
    let split : (r : ℕ) (d : Member) → r < n
    → (rest : List ℕ)
    × (drop (8 + r * 232) text
    ≡ big_bytes 4 (get_or members r d).weight ++ (big_bytes 4 (length (get_or members r d).keys) ++ (concat (get_or members r d).keys ++ (replicate (56 * (4 - length (get_or members r d).keys)) 0 ++ rest)))) =
    λ r d below.
    let m = get_or members r d in
    let stands = member_stands multikey_member_text 232 members text 8 r d each refl below in
    let zeros : List ℕ = replicate (56 * (4 - length m.keys)) 0 in (
      stands.0,
      stands.1 ∙ append_assoc (big_bytes 4 m.weight) (big_bytes 4 (length m.keys) ++ slots_text m.keys) stands.0
          ∙ ap (λ (t : List ℕ). big_bytes 4 m.weight ++ t) (
          append_assoc (big_bytes 4 (length m.keys)) (slots_text m.keys) stands.0
          ∙ ap (λ (t : List ℕ). big_bytes 4 (length m.keys) ++ t) (append_assoc (concat m.keys) zeros stands.0)),
    ) in
    let place_at : (r : ℕ) → place_of text r ≡ 8 + r * 232 = λ r. omega (arith, place_multikey text r m3) in
    let weight_here : (r : ℕ) (d : Member) → r < n → weight_at text r ≡ (get_or members r d).weight =
    λ r d below.
    weight_read text r w ∙ ap (number_at 4 text) (place_at r)
    ∙ number_again 4 text (8 + r * 232) (get_or members r d).weight (weights r d below).1 (front text (8 + r * 232) 4 (big_bytes 4 (get_or members r d).weight) _ (split r d below).1 refl) in
    let past_weight : (r : ℕ) (d : Member) (below : r < n)
    → drop (8 + r * 232 + 4) text ≡ big_bytes 4 (length (get_or members r d).keys) ++ (concat (get_or members r d).keys ++ (replicate (56 * (4 - length (get_or members r d).keys)) 0 ++ (split r d below).0)) =
    λ r d below. behind text (8 + r * 232) 4 (big_bytes 4 (get_or members r d).weight) _ (split r d below).1 refl in
    let past_count : (r : ℕ) (d : Member) (below : r < n)
    → drop (8 + r * 232 + 4 + 4) text ≡ concat (get_or members r d).keys ++ (replicate (56 * (4 - length (get_or members r d).keys)) 0 ++ (split r d below).0) =
    λ r d below. behind text (8 + r * 232 + 4) 4 (big_bytes 4 (length (get_or members r d).keys)) _ (past_weight r d below) refl in
    let count_here : (r : ℕ) (d : Member) → r < n → keys_of text r ≡ length (get_or members r d).keys =
    λ r d below.
    let few = (counted r d below).1 in
    keys_read text r m3 ∙ ap (λ (p : ℕ). number_at 4 text (p + 4)) (place_at r)
    ∙ number_again 4 text (8 + r * 232 + 4) (length (get_or members r d).keys) (omega arith) (front text (8 + r * 232 + 4) 4 (big_bytes 4 (length (get_or members r d).keys)) _ (past_weight r d below) refl) in
    record {
      long = omega (arith, place_multikey text n m3);
      n_here = n_here;
      least = least;
      most = most;
      format = or_left (has_weights text) (bytes_eq (codes "HSC1") (piece 4 text 0)) w;
      size = subst (λ (b : Bool). (if b then is_of_weighted_size (number_at 2 text 4) (n_of text) else is_of_size (number_at 2 text 4) (n_of text)) ≡ true) (sym w) is_so;
      weights_here = weight_here;
      positive = λ r below. subst (λ (x : ℕ). 1 ≤ x) (sym (weight_here r some_member below)) (weights r some_member below).0;
      fits = λ r below. subst (λ (x : ℕ). x < 2 ^ 32) (sym (weight_here r some_member below)) (weights r some_member below).1;
      counts_here = count_here;
      counts = λ r below.
          let here = count_here r some_member below in
          let fit = counted r some_member below in
          (omega (arith, fit.0), omega (arith, fit.1));
      zeros = λ r below. multikey_zeros members text r m3 long (count_here r some_member below) below (split r some_member below).0 (past_count r some_member below);
      keys_here = λ r k d e below has.
          let place : 8 + r * 232 + 4 + 4 + 56 * k ≡ key_place text r k = omega (arith, key_multikey text r k m3) in
          key_spelled_at text r k ∙ ap (piece 56 text) (sym place)
          ∙ key_stands (get_or members r d).keys text _ (8 + r * 232 + 4 + 4) k e (long_at members long r d below) (past_count r d below) has;
    }

pub parts_in : (members : List Member) (bytes : List ℕ) → AreSpelled members bytes → Parts members bytes
parts_in members bytes is = elim is.text [
  | inl once ↦ subst (Parts members) (sym once.text) (parts_plain members is.keys once.f once.least once.most once.size once.weights once.one_key)
  | inr other ↦ elim other [
    | inl have ↦ subst (Parts members) (sym have.text) (parts_weighted members is.keys have.least have.most have.weights have.one_key)
    | inr many ↦ subst (Parts members) (sym many.text) (parts_multikey members is.keys many.least many.most many.weights many.counts)
  ]
]

whole_true : (len to : ℕ) → 8 ≤ len → len ≡ to → (nat_le 8 len && (len == to)) ≡ true
whole_true len to a e = grind (arith, nat_tests)

choice_true : (b : Bool) (r : CommitteeRefusal) → b ≡ true → (if b then None else Some r) ≡ None
choice_true true r e = refl
choice_true false r e = absurd cc

choice_false : (b : Bool) (r : CommitteeRefusal) → b ≡ false → (if b then Some r else None) ≡ None
choice_false true r e = absurd cc
choice_false false r e = refl

unequal : (xs ys : List ℕ) → xs ≢ ys → bytes_eq xs ys ≡ false
unequal xs ys apart = false_from_ne_true (bytes_eq xs ys) (λ t. apart ((bytes_eq-Decides xs ys).0 t))

not_zero : (w : ℕ) → 1 ≤ w → (w == 0) ≡ false
not_zero w l = grind (arith, nat_tests)

eight_at_least : (bytes : List ℕ) (n : ℕ) → 8 ≤ place_of bytes n
eight_at_least bytes n = elim (format_of bytes) [
  | plain o p ↦ omega (arith, place_plain bytes n o p)
  | weighted o w ↦ omega (arith, place_weighted bytes n o w)
  | multikey m w ↦ omega (arith, place_multikey bytes n m)
]

-- members that stand in the bytes, with the keys that they have
record Held (members : List Member) (bytes : List ℕ) : Type 0 where
  keys : (r k : ℕ) → r < n_of bytes → k < keys_of bytes r → IsPublicKey (key_at bytes r k)
  own : (r j k : ℕ) → r < n_of bytes → j < k → k < keys_of bytes r → key_at bytes r j ≢ key_at bytes r k
  apart : (r s j k : ℕ) → r < s → s < n_of bytes → j < keys_of bytes r → k < keys_of bytes s → key_at bytes r j ≢ key_at bytes s k

held_in : (members : List Member) (bytes : List ℕ) → HaveKeys members → Parts members bytes → Held members bytes
held_in members bytes are p =
    let count : n_of bytes ≡ length members = p.n_here in
    let d = some_member in
    let inside : (r : ℕ) → r < n_of bytes → r < length members = λ r below. omega arith in
    let has : (r k : ℕ) → r < n_of bytes → k < keys_of bytes r → k < length (get_or members r d).keys =
    λ r k below l. let c = p.counts_here r d (inside r below) in omega arith in
    record {
      keys = λ r k below l.
          subst IsPublicKey (sym (p.keys_here r k d [] (inside r below) (has r k below l))) (are.public_keys r d (inside r below) k [] (has r k below l));
      own = λ r j k below before l.
          λ same. are.own r d (inside r below) j k [] before (has r k below l) (
          sym (p.keys_here r j d [] (inside r below) (has r j below (omega arith))) ∙ same ∙ p.keys_here r k d [] (inside r below) (has r k below l));
      apart = λ r s j k before below l_j l_k.
          λ same. are.different r s d before (inside s below) j [] (has r j (omega arith) l_j) k [] (has s k below l_k) (
          sym (p.keys_here r j d [] (inside r (omega arith)) (has r j (omega arith) l_j)) ∙ same ∙ p.keys_here s k d [] (inside s below) (has s k below l_k));
    }

pub committee_again : (members : List Member) (bytes : List ℕ) → AreSpelled members bytes → committee_in bytes ≡ Ok bytes
unfolding committee_in
committee_again members bytes is =
    let p : Parts members bytes = parts_in members bytes is in
    let h : Held members bytes = held_in members bytes is.keys p in
    let n = n_of bytes in
    let count : n ≡ length members = p.n_here in
    let long : length bytes ≡ place_of bytes n = p.long ∙ ap (place_of bytes) (sym count) in
    let eight = eight_at_least bytes n in
    let no_count : first_of (bad_count bytes) n ≡ None =
    none_of (bad_count bytes) n (λ r below.
    let c = p.counts r (omega arith) in
    choice_true _ (KeyCount r) (and_true _ _ (count_true (room_of bytes) (keys_of bytes r) c.0 c.1) (p.zeros r (omega arith)))) in
    let no_bad : first_of (bad_key_of bytes) n ≡ None =
    none_of (bad_key_of bytes) n (λ r below. none_of (bad_key bytes r) (keys_of bytes r) (λ k l.
    choice_true _ (Key (key_number bytes r k)) (is_key-public_key _ (h.keys r k below l)))) in
    let no_twin : first_of (first_twin_of bytes) n ≡ None =
    none_of (first_twin_of bytes) n (λ s below. none_of (twin_of bytes s) (keys_of bytes s) (λ k l.
    else_none _ _
    (none_of (same_key_of bytes s k) s (λ r before. none_of (same_key bytes s k r) (keys_of bytes r) (λ j l_j.
    choice_false _ (SameKey (key_number bytes r j) (key_number bytes s k)) (unequal _ _ (h.apart r s j k before below l_j l)))))
    (none_of (same_key bytes s k s) k (λ j before.
    choice_false _ (SameKey (key_number bytes s j) (key_number bytes s k)) (unequal _ _ (h.own s j k below before l)))))) in
    let no_zero : first_of (no_weight bytes) n ≡ None =
    none_of (no_weight bytes) n (λ r below. choice_false _ (Weight r) (not_zero _ (p.positive r (omega arith)))) in
    need_true _ Length _ _ (whole_true (length bytes) (place_of bytes n) (omega arith) long) (
    need_true _ Magic _ _ p.format (
    need_true _ Size _ _ p.size (
    unless_none _ _ _ no_count (unless_none _ _ _ no_bad (unless_none _ _ _ no_twin (unless_none _ _ _ no_zero refl))))))

-- ---- what a committee's bytes are known to have

pub record HasSize (bytes : List ℕ) : Type 0 where
  pub long : length bytes ≡ place_of bytes (n_of bytes)
  pub eight : 8 ≤ length bytes
  pub least : 4 ≤ n_of bytes
  pub most : n_of bytes ≤ 31

pub size_of : (bytes : List ℕ) → IsCommittee bytes → HasSize bytes
size_of bytes is =
    let p : Parts is.members bytes = parts_in is.members bytes is.spelled in
    let n = p.n_here in
    let least = p.least in
    let most = p.most in
    let long = p.long ∙ ap (place_of bytes) (sym n) in
    record { long = long; eight = omega (arith, eight_at_least bytes (n_of bytes)); least = omega arith; most = omega arith }

-- the bytes of each replica are there
pub place_within : (bytes : List ℕ) (r : ℕ) → IsCommittee bytes → r < n_of bytes → place_of bytes (r + 1) ≤ length bytes
place_within bytes r is below =
    let size = size_of bytes is in
    omega (arith, place_below bytes r (n_of bytes) below, size.long)

-- what holds of the member at a place, by the bytes there
pub member_found : (members : List Member) (bytes : List ℕ) (r : ℕ) (P : Member → Type 0) → AreSpelled members bytes → r < n_of bytes
    → ((weight_at bytes r ≡ (get_or members r some_member).weight) × (keys_of bytes r ≡ length (get_or members r some_member).keys) → P (get_or members r some_member))
    → IfSome (slice_get members r) P
member_found members bytes r P is below holds =
    let p = parts_in members bytes is in
    let n = p.n_here in
    let inside : r < length members = omega arith in
    let read : slice_get members r ≡ Some (get_or members r some_member) =
    slice_get_read members (length members) r (get_or members r some_member) refl inside (get_or_default members r some_member (get_or members r some_member) inside) in
    subst (λ (o : Option Member). IfSome o P) (sym read) (holds (p.weights_here r some_member inside, p.counts_here r some_member inside))

-- and of its key at a place
pub key_found : (members : List Member) (bytes : List ℕ) (r k : ℕ) (P : List ℕ → Type 0) → AreSpelled members bytes → r < n_of bytes → k < keys_of bytes r
    → P (key_at bytes r k) → IfSome (slice_get members r) (λ m. IfSome (slice_get m.keys k) P)
key_found members bytes r k P is below has holds =
    let p = parts_in members bytes is in
    let n = p.n_here in
    let inside : r < length members = omega arith in
    member_found members bytes r (λ m. IfSome (slice_get m.keys k) P) is below (λ parts.
    let keys = (get_or members r some_member).keys in
    let there : k < length keys = omega (arith, parts.1) in
    let read : slice_get keys k ≡ Some (get_or keys k []) =
    slice_get_read keys (length keys) k (get_or keys k []) refl there (get_or_default keys k [] (get_or keys k []) there) in
    subst (λ (o : Option (List ℕ)). IfSome o P) (sym read) (subst P (p.keys_here r k some_member [] inside there) holds))

-- each replica has a key, and no more than there is room for
pub count_here : (bytes : List ℕ) (r : ℕ) → IsCommittee bytes → r < n_of bytes → (1 ≤ keys_of bytes r) × (keys_of bytes r ≤ room_of bytes)
count_here bytes r is below =
    let p : Parts is.members bytes = parts_in is.members bytes is.spelled in
    let n = p.n_here in
    p.counts r (omega arith)

-- there is room for four at the most
pub room_below : (bytes : List ℕ) → room_of bytes ≤ 4
room_below bytes = elim (cases (has_many_keys bytes)) [ inl m ↦ omega (arith, room_most bytes m) | inr o ↦ omega (arith, room_one bytes o) ]

-- the bytes of each key are a public key
pub key_here : (bytes : List ℕ) (r k : ℕ) → IsCommittee bytes → r < n_of bytes → k < keys_of bytes r → IsPublicKey (key_at bytes r k)
key_here bytes r k is below has =
    let p : Parts is.members bytes = parts_in is.members bytes is.spelled in
    (held_in is.members bytes is.spelled.keys p).keys r k below has

-- each replica has a weight, of four bytes
pub weight_here : (bytes : List ℕ) (r : ℕ) → IsCommittee bytes → r < n_of bytes → (1 ≤ weight_at bytes r) × (weight_at bytes r < 2 ^ 32)
weight_here bytes r is below =
    let p : Parts is.members bytes = parts_in is.members bytes is.spelled in
    let n = p.n_here in
    (p.positive r (omega arith), p.fits r (omega arith))

-- ---- what they weigh together

any_weighs : (weight : ℕ → ℕ) (n : ℕ) → ((r : ℕ) → r < n → weight r < 2 ^ 32) → weight_of weight is_any n ≤ 2 ^ 32 * n
any_weighs weight zero below = omega arith
any_weighs weight (suc n) below =
    let rest = any_weighs weight n (λ r l. below r (omega arith)) in
    let last = below n (omega arith) in
    omega arith

pub total_below : (bytes : List ℕ) → IsCommittee bytes → total_of bytes < 2 ^ 37
total_below bytes is =
    let all = any_weighs (weight_at bytes) (n_of bytes) (λ r l. (weight_here bytes r is l).1) in
    let most = (size_of bytes is).most in
    omega arith
