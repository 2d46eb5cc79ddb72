-- The tests of an endorsement, in their order.
use Rattle.std.specs.Prelude.{◌≡◌, ◌<◌, ℕ, List, [], ◌∷◌}
use Rattle.base_wire.specs.Refusals.{AllPassed, IsFirst}
use Rattle.blocks.specs.Committees.{n_of, keys_of}
use Rattle.blocks.specs.Genesis.{chain_id_of}
use Rattle.handover_keys.specs.NextKeys.{chain_in, count_in, replica_in}
use Rattle.handover_keys.specs.NextKeysReading.{HasForm}
use Rattle.handover_keys.specs.Endorsements.{HasBoundIds, IsSigned, signature_in, signing_key_in, statement_in}
use Rattle.handover_keys.specs.declared.statement.NextKeysRefusal.{NextKeysRefusal}
use Rattle.handover_keys.specs.declared.statement.NextKeysRefusal.TheVariants as form
use Rattle.handover_keys.specs.declared.checking.EndorsementRefusal.{EndorsementRefusal}
use Rattle.handover_keys.specs.declared.checking.EndorsementRefusal.TheVariants.{Short, Magic, Count, Length, Key, Chain, Replica, KeyCount, KeyId, KeyNumber, Signature}

-- what each refusal tests
abbrev pub Passes : List ℕ → List ℕ → EndorsementRefusal → Type 0
Passes committee bytes Short = HasForm (statement_in bytes) form.Short
Passes committee bytes Magic = HasForm (statement_in bytes) form.Magic
Passes committee bytes Count = HasForm (statement_in bytes) form.Count
Passes committee bytes Length = HasForm (statement_in bytes) form.Length
Passes committee bytes Key = HasForm (statement_in bytes) form.Key
Passes committee bytes Chain = chain_in (statement_in bytes) ≡ chain_id_of committee
Passes committee bytes Replica = replica_in (statement_in bytes) < n_of committee
Passes committee bytes KeyCount = count_in (statement_in bytes) ≡ keys_of committee (replica_in (statement_in bytes))
Passes committee bytes KeyId = HasBoundIds (statement_in bytes)
Passes committee bytes KeyNumber = signing_key_in bytes < keys_of committee (replica_in (statement_in bytes))
Passes committee bytes Signature = IsSigned committee (replica_in (statement_in bytes)) (signing_key_in bytes) (statement_in bytes) (signature_in bytes)

-- the number that docs/REFUSALS.md gives a refusal
abbrev pub endorsement_refusal_number : EndorsementRefusal → ℕ
endorsement_refusal_number Short = 1
endorsement_refusal_number Magic = 2
endorsement_refusal_number Count = 3
endorsement_refusal_number Length = 4
endorsement_refusal_number Key = 5
endorsement_refusal_number Chain = 6
endorsement_refusal_number Replica = 7
endorsement_refusal_number KeyCount = 8
endorsement_refusal_number KeyId = 9
endorsement_refusal_number KeyNumber = 10
endorsement_refusal_number Signature = 11

abbrev pub check_order : List EndorsementRefusal
check_order = Short ∷ Magic ∷ Count ∷ Length ∷ Key ∷ Chain ∷ Replica ∷ KeyCount ∷ KeyId ∷ KeyNumber ∷ Signature ∷ []

-- a refusal of the statement
abbrev pub of_form : NextKeysRefusal → EndorsementRefusal
of_form form.Short = Short
of_form form.Magic = Magic
of_form form.Count = Count
of_form form.Length = Length
of_form form.Key = Key

-- the endorsement passes each test
abbrev pub PassesAll : List ℕ → List ℕ → Type 0
PassesAll committee bytes = AllPassed (Passes committee bytes) check_order

-- it is refused, by the first test that it does not pass
abbrev pub IsEndorsementRefusal : List ℕ → List ℕ → EndorsementRefusal → Type 0
IsEndorsementRefusal committee bytes refusal = IsFirst endorsement_refusal_number (Passes committee bytes) check_order refusal
