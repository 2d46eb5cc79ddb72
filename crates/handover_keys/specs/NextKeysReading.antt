-- Why bytes are no statement of next keys: the tests of a reader, in their order.
use Rattle.std.specs.Prelude.{◌≡◌, ◌≤◌, ◌<◌, ◌+◌, ◌*◌, ℕ, List, [], ◌∷◌, length, codes}
use Rattle.lms_tree.specs.Keys.{IsPublicKey}
use Rattle.base_wire.specs.Pieces.{piece}
use Rattle.base_wire.specs.Refusals.{AllPassed, IsFirst}
use Rattle.base_wire.specs.declared.limits.TheConstants.{MOST_KEYS}
use Rattle.handover_keys.specs.NextKeys.{count_in, key_in}
use Rattle.handover_keys.specs.declared.statement.NextKeysRefusal.{NextKeysRefusal}
use Rattle.handover_keys.specs.declared.statement.NextKeysRefusal.TheVariants.{Short, Magic, Count, Length, Key}

-- there are one to four keys
pub record IsCount (count : ℕ) : Type 0 where
  pub least : 1 ≤ count
  pub most : count ≤ MOST_KEYS

-- the first n keys are public keys
abbrev pub ArePublicKeys : List ℕ → ℕ → Type 0
ArePublicKeys bytes n = (k : ℕ) → k < n → IsPublicKey (key_in bytes k)

-- what each refusal tests
abbrev pub HasForm : List ℕ → NextKeysRefusal → Type 0
HasForm bytes Short = 39 ≤ length bytes
HasForm bytes Magic = piece 4 bytes 0 ≡ codes "HSE1"
HasForm bytes Count = IsCount (count_in bytes)
HasForm bytes Length = length bytes ≡ 39 + 56 * count_in bytes
HasForm bytes Key = ArePublicKeys bytes (count_in bytes)

-- the number that docs/REFUSALS.md gives a refusal
abbrev pub next_keys_refusal_number : NextKeysRefusal → ℕ
next_keys_refusal_number Short = 1
next_keys_refusal_number Magic = 2
next_keys_refusal_number Count = 3
next_keys_refusal_number Length = 4
next_keys_refusal_number Key = 5

abbrev pub form_order : List NextKeysRefusal
form_order = Short ∷ Magic ∷ Count ∷ Length ∷ Key ∷ []

-- the bytes are a statement of next keys
abbrev pub IsStatement : List ℕ → Type 0
IsStatement bytes = AllPassed (HasForm bytes) form_order

-- they are none, by the first test that they do not pass
abbrev pub IsNextKeysRefusal : List ℕ → NextKeysRefusal → Type 0
IsNextKeysRefusal bytes refusal = IsFirst next_keys_refusal_number (HasForm bytes) form_order refusal
