-- What is shown of an endorsement. Nothing in it is checked.
use Rattle.std.specs.Prelude.{ℕ, zero, suc, ◌≡◌, ◌++◌, List, [], codes, decimal}
use Rattle.hex.specs.Hex.{encode_lower}
use Rattle.handover_keys.specs.Endorsements.{IsEndorsementOf, signature_in, signing_key_in, statement_in}
use Rattle.handover_keys.specs.NextKeys.{chain_in, count_in, key_id_in, replica_in, root_in}
use Rattle.handover_keys.specs.NextKeysReading.{IsNextKeysRefusal, next_keys_refusal_number}
use Rattle.handover_keys.specs.declared.statement.NextKeysRefusal.{NextKeysRefusal}
use Rattle.program_show.specs.Lines.{chain_line, shown_refusal_line, unchecked_line}
use Rattle.program_show.specs.Names.{next_keys_refusal_name}

-- "endorsement replica R keys N signed by key K": how many next keys there are, and the number of the present one that signed
unfoldable pub endorsement_line : ℕ → ℕ → ℕ → List ℕ
endorsement_line replica keys key =
    codes "endorsement replica " ++ decimal replica ++ codes " keys " ++ decimal keys
    ++ codes " signed by key " ++ decimal key ++ codes "\n"

-- "next key K id ID root ROOT"
unfoldable pub next_key_line : ℕ → List ℕ → List ℕ → List ℕ
next_key_line k id root =
    codes "next key " ++ decimal k ++ codes " id " ++ encode_lower id ++ codes " root " ++ encode_lower root ++ codes "\n"

-- of the first next keys of a statement, so many
abbrev pub next_key_lines : List ℕ → ℕ → List ℕ
next_key_lines statement zero = []
next_key_lines statement (suc k) = next_key_lines statement k ++ next_key_line k (key_id_in statement k) (root_in statement k)

-- what a statement of next keys says, signed by the key of this number
abbrev pub statement_lines : List ℕ → ℕ → List ℕ
statement_lines statement key =
    endorsement_line (replica_in statement) (count_in statement) key ++ chain_line (chain_in statement)
    ++ next_key_lines statement (count_in statement) ++ unchecked_line 1

abbrev pub endorsement_lines : List ℕ → List ℕ
endorsement_lines bytes = statement_lines (statement_in bytes) (signing_key_in bytes)

-- the bytes are an endorsement, and the lines say what stands in it
pub record IsEndorsementText (bytes text : List ℕ) : Type 0 where
  pub spelled : IsEndorsementOf bytes (statement_in bytes) (signing_key_in bytes) (signature_in bytes)
  pub text_is : text ≡ endorsement_lines bytes

-- they are none, and the line says why
pub record IsNoEndorsementText (bytes text : List ℕ) : Type 0 where
  pub refusal : NextKeysRefusal
  pub first_refusal : IsNextKeysRefusal (statement_in bytes) refusal
  pub text_is : text ≡ shown_refusal_line (codes "endorsement") (next_keys_refusal_number refusal) (next_keys_refusal_name refusal)
