-- Which files name a committee that may come next, and what is told of one that does not. A slot of a committee is one of its
-- replicas, by number, with its keys.
use Rattle.std.specs.Prelude.{◌≡◌, ◌<◌, ◌≤◌, ◌++◌, ◌∷◌, ◌↔◌, ℕ, List, Bool, IsFalse, Some, Err, map, codes, decimal}
use Rattle.std.specs.List.{Contains}
use Rattle.std.specs.declared.alloc.Global.{Global}
use Rattle.std.specs.declared.vec.Vec.{Vec}
use Rattle.blocks.specs.Committees.{IsCommittee, key_id_at, keys_of, n_of, root_at, weight_at}
use Rattle.blocks.specs.CommitteeReading.{committee_in, key_number}
use Rattle.blocks.specs.Weights.{quorum_of, weight_of}
use Rattle.lms_tree.specs.declared.public_key.PublicKey.{PublicKey}
use Rattle.base_text.specs.Printed.{refusal_text}
use Rattle.handover_blocks.specs.Handovers.{handover_payload}
use Rattle.handover_blocks.specs.OldKeys.{IsKeyOf, public_key_at}
use Rattle.handover_steps.specs.Least.{IsLeast}
use Rattle.handover_steps.specs.declared.file_refusal.SuccessorRefusal.{SuccessorRefusal}
use Rattle.handover_steps.specs.declared.file_refusal.SuccessorRefusal.TheVariants.{NotRead, Committee, OldKey}

-- ---- slots that are kept

-- key k of a slot is the same in both committees
pub record IsSameKey (old new : List ℕ) (slot k : ℕ) : Type 0 where
  pub key_id : key_id_at old slot k ≡ key_id_at new slot k
  pub root : root_at old slot k ≡ root_at new slot k

-- both committees have the slot, with the same keys in the same order
pub record IsKept (old new : List ℕ) (slot : ℕ) : Type 0 where
  pub known : slot < n_of old
  pub still : slot < n_of new
  pub as_many : keys_of old slot ≡ keys_of new slot
  pub each : (k : ℕ) → k < keys_of old slot → IsSameKey old new slot k

-- how much the slots of the old committee that are not kept weigh together
pub record IsChangedWeight (old new : List ℕ) (weight : ℕ) : Type 0 where
  pub is_changed : ℕ → Bool
  pub exact : (slot : ℕ) → IsFalse (is_changed slot) ↔ IsKept old new slot
  pub sum : weight ≡ weight_of (weight_at old) is_changed (n_of old)

-- .. at least a quorum of the old committee
pub record IsChangedByAQuorum (old new : List ℕ) : Type 0 where
  pub weight : ℕ
  pub changed : IsChangedWeight old new weight
  pub enough : quorum_of old ≤ weight

-- the slot is kept, and those that are not kept weigh at least a quorum
abbrev pub IsExempt : (old new : List ℕ) → ℕ → Type 0
IsExempt old new slot = IsKept old new slot × IsChangedByAQuorum old new

-- ---- keys that are taken

-- a committee of one of these files has the key; a file that is no committee's has none
abbrev pub IsKeyOfAny : List (List ℕ) → PublicKey → Type 0
IsKeyOfAny files key = (file : List ℕ) × Contains files file × IsCommittee file × IsKeyOf file key

-- key k of a slot of the new committee is one of theirs, and the slot is not exempt
pub record IsTakenKey (files : List (List ℕ)) (old new : List ℕ) (slot k : ℕ) : Type 0 where
  pub known : slot < n_of new
  pub has : k < keys_of new slot
  pub taken : IsKeyOfAny files (public_key_at new slot k)
  pub not_exempt : IsExempt old new slot → ⊥

-- the number of such a key among all keys of the new committee
pub record IsTakenNumber (files : List (List ℕ)) (old new : List ℕ) (number : ℕ) : Type 0 where
  pub slot : ℕ
  pub key : ℕ
  pub of : IsTakenKey files old new slot key
  pub numbered : number ≡ key_number new slot key

-- ---- files of the committee that may come next

-- the bytes of each file
abbrev pub files_of : List (Vec ℕ Global) → List (List ℕ)
files_of files = map (λ file. file.items) files

-- the file is a committee's, and no key of it, but in exempt slots, is one of the old committee or of one of the earlier ones
abbrev pub IsSuccessorFile : (earlier : List (List ℕ)) → (old file : List ℕ) → Type 0
IsSuccessorFile earlier old file =
    IsCommittee file × ((slot k : ℕ) → IsTakenKey (old ∷ earlier) old file slot k → ⊥)

-- the payload is that of a block that hands over to such a file
abbrev pub IsSuccessorPayload : (earlier : List (List ℕ)) → (old payload : List ℕ) → Type 0
IsSuccessorPayload earlier old payload =
    (file : List ℕ) × IsSuccessorFile earlier old file × (payload ≡ handover_payload file)

-- why the file is refused; of its keys that are taken, the one with the least number is named
abbrev pub IsSuccessorRefusal : (earlier : List (List ℕ)) → (old file : List ℕ) → SuccessorRefusal → Type 0
IsSuccessorRefusal earlier old file NotRead = ⊥
IsSuccessorRefusal earlier old file (Committee refusal) = committee_in file ≡ Err refusal
IsSuccessorRefusal earlier old file (OldKey key) =
    IsCommittee file × IsLeast (IsTakenNumber (old ∷ earlier) old file) (Some key)

-- "successor not read", "successor N NAME .."
abbrev pub successor_line : SuccessorRefusal → List ℕ
successor_line NotRead = codes "successor not read\n"
successor_line (Committee refusal) = codes "successor " ++ (refusal_text refusal ++ codes "\n")
successor_line (OldKey key) = codes "successor 8 OldKey " ++ (decimal key ++ codes "\n")
