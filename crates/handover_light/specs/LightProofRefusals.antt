-- Why a light proof proves no handover: the first test that is not passed.
use Rattle.std.specs.Prelude.{◌<◌, ◌≤◌, ℕ, List, codes, length}
use Rattle.std.specs.List.{All}
use Rattle.blocks.specs.Weights.{quorum_of}
use Rattle.certificates.specs.BlockChecks.{AreInCommittee}
use Rattle.certificates.specs.Certificates.{nth_endorsement}
use Rattle.certificates.specs.GoodCertificates.{IsGoodEntry, voters_weight}
use Rattle.handover_blocks.specs.Handovers.{IsHandover}
use Rattle.handover_light.specs.LightProofs.{LightProof}
use Rattle.handover_light.specs.Proving.{AllBelow, HasViewsInRow, IsHandoverChain, IsOn, IsOnPrevious, certified_header, handover_block, nth_certificate}
use Rattle.handover_light.specs.declared.judging.LightProofRefusal.{LightProofRefusal}
use Rattle.handover_light.specs.declared.judging.LightProofRefusal.TheVariants.{NoHandover, Views, Parent, OtherBlock, UnknownReplica, TooFew, Vote}

-- the least number below n that does not pass a test
pub record IsLeastBelow (n : ℕ) (P : ℕ → Type 0) (k : ℕ) : Type 0 where
  pub place : k < n
  pub before : AllBelow k P
  pub fails : P k → ⊥

-- ---- what is tested of certificate c

-- it is on its header
abbrev pub IsOnItsHeader : LightProof → ℕ → Type 0
IsOnItsHeader p c = IsOn (certified_header p c) (nth_certificate p c)

-- its replicas are in the committee
abbrev pub HasKnownReplicas : List ℕ → LightProof → ℕ → Type 0
HasKnownReplicas committee p c = AreInCommittee committee (nth_certificate p c)

-- .. and weigh a quorum
abbrev pub HasWeight : List ℕ → LightProof → ℕ → Type 0
HasWeight committee p c = quorum_of committee ≤ voters_weight committee (nth_certificate p c)

-- its votes are good
abbrev pub HasGoodVotes : List ℕ → LightProof → ℕ → Type 0
HasGoodVotes committee p c = All (IsGoodEntry committee (nth_certificate p c)) (nth_certificate p c).entries

-- entry k of certificate c is a good vote
abbrev pub HasGoodVote : List ℕ → LightProof → ℕ → ℕ → Type 0
HasGoodVote committee p c k = IsGoodEntry committee (nth_certificate p c) (nth_endorsement (nth_certificate p c) k)

-- ---- the tests in their order

-- those without a signature
pub record HasForm (committee : List ℕ) (p : LightProof) : Type 0 where
  pub chain : IsHandoverChain p
  pub on : AllBelow 3 (IsOnItsHeader p)
  pub known : AllBelow 3 (HasKnownReplicas committee p)
  pub enough : AllBelow 3 (HasWeight committee p)

-- the certificates before c have good votes alone, and of c vote k is the least that is not good
pub record IsFirstBadVote (committee : List ℕ) (p : LightProof) (c k : ℕ) : Type 0 where
  pub place : c < 3
  pub before : AllBelow c (HasGoodVotes committee p)
  pub least : IsLeastBelow (length (nth_certificate p c).entries) (HasGoodVote committee p c) k

-- the tests before this one are passed, and this one is not
abbrev pub IsLightProofRefusal : LightProofRefusal → List ℕ → LightProof → Type 0
IsLightProofRefusal NoHandover committee p = IsHandover (handover_block p) → ⊥
IsLightProofRefusal Views committee p = IsHandover (handover_block p) × (HasViewsInRow p → ⊥)
IsLightProofRefusal (Parent k) committee p = IsHandover (handover_block p) × HasViewsInRow p × IsLeastBelow (length p.headers) (IsOnPrevious p) k
IsLightProofRefusal (OtherBlock c) committee p = IsHandoverChain p × IsLeastBelow 3 (IsOnItsHeader p) c
IsLightProofRefusal (UnknownReplica c) committee p =
    IsHandoverChain p × AllBelow 3 (IsOnItsHeader p) × IsLeastBelow 3 (HasKnownReplicas committee p) c
IsLightProofRefusal (TooFew c) committee p =
    IsHandoverChain p × AllBelow 3 (IsOnItsHeader p) × AllBelow 3 (HasKnownReplicas committee p) × IsLeastBelow 3 (HasWeight committee p) c
IsLightProofRefusal (Vote c k) committee p = HasForm committee p × IsFirstBadVote committee p c k

-- the number that docs/REFUSALS.md gives a refusal
abbrev pub light_proof_refusal_number : LightProofRefusal → ℕ
light_proof_refusal_number NoHandover = 1
light_proof_refusal_number Views = 2
light_proof_refusal_number (Parent k) = 3
light_proof_refusal_number (OtherBlock c) = 4
light_proof_refusal_number (UnknownReplica c) = 5
light_proof_refusal_number (TooFew c) = 6
light_proof_refusal_number (Vote c k) = 7

-- its name, as it is printed
abbrev pub light_proof_refusal_name : LightProofRefusal → List ℕ
light_proof_refusal_name NoHandover = codes "NoHandover"
light_proof_refusal_name Views = codes "Views"
light_proof_refusal_name (Parent k) = codes "Parent"
light_proof_refusal_name (OtherBlock c) = codes "OtherBlock"
light_proof_refusal_name (UnknownReplica c) = codes "UnknownReplica"
light_proof_refusal_name (TooFew c) = codes "TooFew"
light_proof_refusal_name (Vote c k) = codes "Vote"
