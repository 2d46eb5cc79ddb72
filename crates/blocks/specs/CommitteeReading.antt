-- Reading a committee from left to right, with the first refusal that is met.
use Rattle.std.specs.Prelude.{◌<◌, ◌≤◌, ◌==◌, ◌&&◌, ◌||◌, ◌+◌, ◌-◌, ◌*◌, ℕ, Bool, List, length, nat_le, codes, replicate, Option, Some, None, Result, Ok, if◌then◌else◌}
use Rattle.std.specs.Str.{bytes_eq}
use Rattle.base_wire.specs.Pieces.{piece, number_at}
use Rattle.base_wire.specs.Refusals.{first_of, need, or_else, unless}
use Rattle.blocks.specs.declared.committee.CommitteeRefusal.{CommitteeRefusal}
use Rattle.blocks.specs.declared.committee.CommitteeRefusal.TheVariants.{Length, Magic, Size, KeyCount, Key, SameKey, Weight}
use Rattle.blocks.specs.Committees.{has_weights, n_of, place_of, room_of, weight_at, keys_of, key_place, key_at}

-- whether the bytes are as many as the number of replicas asks for
abbrev pub is_whole_committee : List ℕ → Bool
is_whole_committee bytes = nat_le 8 (length bytes) && (length bytes == place_of bytes (n_of bytes))

-- whether the format is one of the three
abbrev pub has_format : List ℕ → Bool
has_format bytes = has_weights bytes || bytes_eq (codes "HSC1") (piece 4 bytes 0)

-- whether f, the number at 4, is allowed, and there are 3f + 1 replicas
abbrev pub is_of_size : ℕ → ℕ → Bool
is_of_size f n = nat_le 1 f && nat_le f 10 && (n == 3 * f + 1)

-- whether the number at 4 is 0, and there are 4 to 31 replicas
abbrev pub is_of_weighted_size : ℕ → ℕ → Bool
is_of_weighted_size pad n = (pad == 0) && nat_le 4 n && nat_le n 31

abbrev pub has_size : List ℕ → Bool
has_size bytes =
    if has_weights bytes then is_of_weighted_size (number_at 2 bytes 4) (n_of bytes) else is_of_size (number_at 2 bytes 4) (n_of bytes)

-- whether a replica has a key, and no more than there is room for
abbrev pub is_count : ℕ → ℕ → Bool
is_count room keys = nat_le 1 keys && nat_le keys room

-- the room behind the keys of replica r
unfoldable pub unused_at : List ℕ → ℕ → List ℕ
unused_at bytes r = piece (56 * (room_of bytes - keys_of bytes r)) bytes (key_place bytes r (keys_of bytes r))

-- whether all of these are zeros
unfoldable pub are_zeros : List ℕ → Bool
are_zeros xs = bytes_eq xs (replicate (length xs) 0)

-- the refusal of replica r's number of keys, or of what stands in the room behind them
abbrev pub bad_count : List ℕ → ℕ → Option CommitteeRefusal
bad_count bytes r = if is_count (room_of bytes) (keys_of bytes r) && are_zeros (unused_at bytes r) then None else Some (KeyCount r)

-- none of the first n replicas has more keys than there is room for
abbrev pub CountsFit : List ℕ → ℕ → Type 0
CountsFit bytes n = (r : ℕ) → r < n → keys_of bytes r ≤ room_of bytes

-- the number of key k of replica r among all keys: 4r + k where there is room for four, else r
abbrev pub key_number : List ℕ → ℕ → ℕ → ℕ
key_number bytes r k = room_of bytes * r + k

-- whether 56 bytes have the types of a public key (RFC 8554, section 5.3)
unfoldable pub is_key : List ℕ → Bool
is_key key = number_at 4 key 0 == 6 && number_at 4 key 4 == 4

-- the refusal of key k of replica r
abbrev pub bad_key : List ℕ → ℕ → ℕ → Option CommitteeRefusal
bad_key bytes r k = if is_key (key_at bytes r k) then None else Some (Key (key_number bytes r k))

-- the first of those among the replica's keys
abbrev pub bad_key_of : List ℕ → ℕ → Option CommitteeRefusal
bad_key_of bytes r = first_of (bad_key bytes r) (keys_of bytes r)

-- the refusal of key l of replica s where key k of replica r is the same
abbrev pub same_key : List ℕ → ℕ → ℕ → ℕ → ℕ → Option CommitteeRefusal
same_key bytes s l r k =
    if bytes_eq (key_at bytes r k) (key_at bytes s l) then Some (SameKey (key_number bytes r k) (key_number bytes s l)) else None

-- the first of those among all keys of replica r
abbrev pub same_key_of : List ℕ → ℕ → ℕ → ℕ → Option CommitteeRefusal
same_key_of bytes s l r = first_of (same_key bytes s l r) (keys_of bytes r)

-- the first of those among the keys before key l of replica s: those of the replicas before it, and its own
abbrev pub twin_of : List ℕ → ℕ → ℕ → Option CommitteeRefusal
twin_of bytes s l = or_else (first_of (same_key_of bytes s l) s) (first_of (same_key bytes s l s) l)

-- the first key of replica s that stands earlier too
abbrev pub first_twin_of : List ℕ → ℕ → Option CommitteeRefusal
first_twin_of bytes s = first_of (twin_of bytes s) (keys_of bytes s)

-- the refusal of replica k's weight
abbrev pub no_weight : List ℕ → ℕ → Option CommitteeRefusal
no_weight bytes k = if weight_at bytes k == 0 then Some (Weight k) else None

-- the bytes as they are where they are a committee, or why they are none
unfoldable pub committee_in : List ℕ → Result (List ℕ) CommitteeRefusal
committee_in bytes =
    need (is_whole_committee bytes) Length (
    need (has_format bytes) Magic (
    need (has_size bytes) Size (
    unless (first_of (bad_count bytes) (n_of bytes)) (
    unless (first_of (bad_key_of bytes) (n_of bytes)) (
    unless (first_of (first_twin_of bytes) (n_of bytes)) (
    unless (first_of (no_weight bytes) (n_of bytes)) (
    Ok bytes)))))))

-- the number that docs/REFUSALS.md gives a refusal
abbrev pub committee_refusal_number : CommitteeRefusal → ℕ
committee_refusal_number Length = 1
committee_refusal_number Magic = 2
committee_refusal_number Size = 3
committee_refusal_number (KeyCount r) = 7
committee_refusal_number (Key k) = 4
committee_refusal_number (SameKey j k) = 5
committee_refusal_number (Weight r) = 6
