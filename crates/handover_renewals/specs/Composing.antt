-- The next committee that endorsements make, and the renewal by which it renews the committee before.
use Rattle.std.specs.Prelude.{◌++◌, ◌+◌, ℕ, zero, suc, List, [], Option, Some, None, drop, length, option_map, take}
use Rattle.std.specs.Option.{option_to_list}
use Rattle.sha2.specs.Sha256.{sha256}
use Rattle.blocks.specs.Committees.{key_place, n_of}
use Rattle.blocks.specs.Genesis.{chain_id_of}
use Rattle.certificates.specs.declared.certificate.Endorsement.{Endorsement}
use Rattle.handover_keys.specs.Endorsements.{signature_in, signing_key_in, statement_in}
use Rattle.handover_keys.specs.NextKeys.{next_keys_in}
use Rattle.handover_renewals.specs.Renewals.{Renewal}
use Rattle.handover_renewals.specs.Slots.{slot_keys}
use Rattle.handover_renewals.specs.Endorsed.{endorsement_of, stated_keys}

-- ---- the committee

-- a text with a piece written over what stands at a place
abbrev pub overwritten : List ℕ → ℕ → List ℕ → List ℕ
overwritten text at piece = take at text ++ (piece ++ drop (at + length piece) text)

-- the file with the keys of a slot replaced by those that an endorsement states, if there is one
unfoldable pub with_slot : List ℕ → List ℕ → ℕ → Option (List ℕ) → List ℕ
with_slot old file s None = file
with_slot old file s (Some e) = overwritten file (key_place old s 0) (stated_keys e)

-- the old file with the first n slots renewed so
unfoldable pub file_upto : List ℕ → List (List ℕ) → ℕ → List ℕ
file_upto old es zero = old
file_upto old es (suc n) = with_slot old (file_upto old es n) n (endorsement_of es n)

-- .. with all slots: the next committee's file
abbrev pub composed_file : List ℕ → List (List ℕ) → List ℕ
composed_file old es = file_upto old es (n_of old)

-- the keys of a slot after that: those that its replica endorsed, else those that it had
abbrev pub next_slot_keys : List ℕ → ℕ → Option (List ℕ) → List (List ℕ)
next_slot_keys old s None = slot_keys old s
next_slot_keys old s (Some e) = (next_keys_in (statement_in e)).keys

-- ---- the renewal

-- what the renewal has of a replica's endorsement: the number of the key that signed, and the signature
abbrev pub seal_of : ℕ → List ℕ → Endorsement
seal_of s e = record { replica = s; key = signing_key_in e; signature = signature_in e }

-- those of the first n replicas, in their order
unfoldable pub seals_upto : List (List ℕ) → ℕ → List Endorsement
seals_upto es zero = []
seals_upto es (suc n) = seals_upto es n ++ option_to_list (option_map (seal_of n) (endorsement_of es n))

-- the renewal of the old committee by this file, with all of them
abbrev pub renewal_to : List ℕ → List ℕ → List (List ℕ) → Renewal
renewal_to old file es = record {
  chain = chain_id_of old;
  certificate = record { view = 1; id = sha256 file; entries = seals_upto es (n_of old) };
}
