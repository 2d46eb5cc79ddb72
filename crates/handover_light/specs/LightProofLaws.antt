-- The laws of light proofs.
use Rattle.std.specs.Prelude.{◌≡◌, ℕ, List}
use Rattle.std.specs.List.{Contains}
use Rattle.blocks.specs.Chains.{AllIn, IsChain}
use Rattle.blocks.specs.Genesis.{genesis_of}
use Rattle.blocks.specs.Headers.{Header}
use Rattle.blocks.specs.Weights.{committee_of}
use Rattle.audit_evidence.specs.Evidence.{Evidence}
use Rattle.audit_commits.specs.Commits.{Stands}
use Rattle.handover_blocks.specs.Handovers.{IsFirstCommitted, IsHandover}
use Rattle.handover_light.specs.LightProofs.{LightProof, IsLightProof}
use Rattle.handover_light.specs.Proving.{AllBelow, ProvesHandover, committed_place, handover_block, nth_certificate, nth_header}
use Rattle.handover_light.specs.Histories.{AreHistories, HasVotesOf}

-- evidence has the headers of a light proof, and the votes of its certificates
pub record HasLightProof (e : Evidence) (p : LightProof) : Type 0 where
  pub headers : AllIn e.headers p.headers
  pub votes : AllBelow 3 (λ c. HasVotesOf e (nth_certificate p c))

-- .. and shows what a light proof leaves out: this is the chain of its first block, each block of it is certified, or genesis, none of it
-- hands over, and each block of the proof below the committed one is certified
pub record ShowsChain (e : Evidence) (p : LightProof) (chain : List Header) : Type 0 where
  pub is_chain : IsChain (genesis_of e.committee) (handover_block p) chain
  pub stands : (h : Header) → Contains chain h → Stands (committee_of e.committee) e h
  pub between : AllBelow (committed_place p) (λ k. Stands (committee_of e.committee) e (nth_header p k))
  pub first : (h : Header) → Contains chain h → IsHandover h → ⊥

-- then evidence proves the first handover by all headers
abbrev pub ALightProofIsAFirstHandover : Type 0
ALightProofIsAFirstHandover =
    (e : Evidence) (p : LightProof) (chain : List Header)
    → IsLightProof p → ProvesHandover e.committee p → HasLightProof e p → ShowsChain e p chain
    → IsFirstCommitted (committee_of e.committee) e IsHandover (handover_block p)

-- by what correct replicas hold, one committee has one handover that light proofs prove
abbrev pub LightProofsAgree : Type 0
LightProofsAgree =
    (e : Evidence) (faulty careless : List ℕ) (p q : LightProof)
    → AreHistories e faulty careless
    → IsLightProof p → ProvesHandover e.committee p → HasLightProof e p
    → IsLightProof q → ProvesHandover e.committee q → HasLightProof e q
    → handover_block p ≡ handover_block q

-- .. which is the first handover that evidence proves by all headers, if it proves one
abbrev pub ALightProofAgreesWithEvidence : Type 0
ALightProofAgreesWithEvidence =
    (e : Evidence) (faulty careless : List ℕ) (p : LightProof) (b : Header)
    → AreHistories e faulty careless
    → IsLightProof p → ProvesHandover e.committee p → HasLightProof e p
    → IsFirstCommitted (committee_of e.committee) e IsHandover b
    → handover_block p ≡ b
