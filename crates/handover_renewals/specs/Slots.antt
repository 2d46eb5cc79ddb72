-- The slots of a committee, one for each replica, beside those of another committee with as many.
use Rattle.std.specs.Prelude.{◌≡◌, ◌&&◌, ◌++◌, ℕ, zero, suc, Bool, true, List, [], ◌∷◌, cond, false}
use Rattle.std.specs.Str.{bytes_eq}
use Rattle.blocks.specs.Committees.{n_of, keys_of, key_at, weight_at}
use Rattle.blocks.specs.Weights.{weight_of}
use Rattle.handover_keys.specs.NextKeys.{NextKeys}
use Rattle.handover_renewals.specs.declared.slots.Slots.{Slots}

-- the first n keys of a slot
unfoldable pub keys_upto : List ℕ → ℕ → ℕ → List (List ℕ)
keys_upto committee s zero = []
keys_upto committee s (suc n) = keys_upto committee s n ++ key_at committee s n ∷ []

-- all its keys
abbrev pub slot_keys : List ℕ → ℕ → List (List ℕ)
slot_keys committee s = keys_upto committee s (keys_of committee s)

-- the statement that the next keys of a slot, behind the committee of this chain, are those of another committee
abbrev pub slot_statement : List ℕ → List ℕ → ℕ → NextKeys
slot_statement chain new s = record { chain = chain; replica = s; keys = slot_keys new s }

-- whether the first n keys of a slot are the same
unfoldable pub same_keys : List ℕ → List ℕ → ℕ → ℕ → Bool
same_keys old new s zero = true
same_keys old new s (suc n) = same_keys old new s n && bytes_eq (key_at old s n) (key_at new s n)

-- whether a slot is kept: all its keys are the same
abbrev pub is_kept : List ℕ → List ℕ → ℕ → Bool
is_kept old new s = same_keys old new s (keys_of old s)

-- .. else it is new
abbrev pub is_new : List ℕ → List ℕ → ℕ → Bool
is_new old new s = cond (is_kept old new s) false true

-- how many slots are new, and how much they weigh
abbrev pub new_count : List ℕ → List ℕ → ℕ
new_count old new = weight_of (λ s. 1) (is_new old new) (n_of old)

abbrev pub new_weight : List ℕ → List ℕ → ℕ
new_weight old new = weight_of (weight_at old) (is_new old new) (n_of old)

pub record AreSlotsOf (old new : List ℕ) (slots : Slots) : Type 0 where
  pub count : slots.count ≡ new_count old new
  pub weight : slots.weight ≡ new_weight old new
