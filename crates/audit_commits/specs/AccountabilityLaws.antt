-- The laws of accountability: where two commits conflict, more than a third of the committee are culprits (the aim is
-- that of BFT Protocol Forensics, Sheng and others, CCS 2021; the rules are this project's own).
use Rattle.std.specs.Prelude.{◌≡◌, ◌<◌, ◌≤◌, ◌+◌, ◌*◌, ℕ, List, length, false}
use Rattle.blocks.specs.Chains.{Conflict, NoCollision}
use Rattle.blocks.specs.Committees.{has_weights, n_of, weight_at}
use Rattle.blocks.specs.Headers.{Header, IsGenesis}
use Rattle.certificates.specs.declared.vote.SignedVote.{SignedVote}
use Rattle.audit_evidence.specs.Evidence.{Evidence, IsEvidence}
use Rattle.blocks.specs.Weights.{Committee, total_weight, weight_of, is_among, committee_of, quorum_of}
use Rattle.audit_commits.specs.Commits.{IsProvedCommit}
use Rattle.audit_commits.specs.Culprits.{AreCulprits, IsNamedPair}

-- the weight of these replicas in a committee; what is not one of its replicas weighs nothing
abbrev pub weight_among : Committee → List ℕ → ℕ
weight_among c replicas = weight_of c.weight (is_among replicas) c.size

-- of any committee whose quorums have more than two thirds of the weight
abbrev pub AConflictAccusesMoreThanAThird : Type 0
AConflictAccusesMoreThanAThird =
    (c : Committee) (e : Evidence) (a b : Header) (culprits : List ℕ)
    → IsGenesis c.genesis → 2 * total_weight c < 3 * c.quorum → NoCollision e.headers
    → IsProvedCommit c e a → IsProvedCommit c e b → Conflict e.headers c.genesis a b
    → AreCulprits e culprits
    → total_weight c < 3 * weight_among c culprits

-- of the committee of the evidence, whose quorums have that; no premise on ids is left
abbrev pub EvidenceOfAConflictAccusesMoreThanAThird : Type 0
EvidenceOfAConflictAccusesMoreThanAThird =
    (e : Evidence) (a b : Header) (culprits : List ℕ)
    → IsEvidence e
    → IsProvedCommit (committee_of e.committee) e a → IsProvedCommit (committee_of e.committee) e b
    → Conflict e.headers (committee_of e.committee).genesis a b
    → AreCulprits e culprits
    → total_weight (committee_of e.committee) < 3 * weight_among (committee_of e.committee) culprits

-- more than a third of the weight is at least f + 1 of 3f + 1 replicas that count once
abbrev pub AThirdIsMoreThanF : Type 0
AThirdIsMoreThanF =
    (committee culprits : List ℕ) (f : ℕ)
    → has_weights committee ≡ false → n_of committee ≡ 3 * f + 1
    → total_weight (committee_of committee) < 3 * weight_among (committee_of committee) culprits
    → f + 1 ≤ length culprits

-- of 3f + 1 replicas that count once a quorum is 2f + 1 of them, and a vote weighs 1
abbrev pub AQuorumOfOnceIsTwoFPlusOne : Type 0
AQuorumOfOnceIsTwoFPlusOne =
    (committee : List ℕ) (f : ℕ)
    → has_weights committee ≡ false → n_of committee ≡ 3 * f + 1
    → (quorum_of committee ≡ 2 * f + 1) × ((r : ℕ) → weight_at committee r ≡ 1)

-- no two different headers in evidence have one id
abbrev pub EvidenceNamesEachHeaderOnce : Type 0
EvidenceNamesEachHeaderOnce = (e : Evidence) → IsEvidence e → NoCollision e.headers

-- a replica has no more than one pair that is named
abbrev pub ACulpritHasOneNamedPair : Type 0
ACulpritHasOneNamedPair =
    (e : Evidence) (r : ℕ) (v w x y : SignedVote)
    → IsNamedPair e r v w → IsNamedPair e r x y → (v ≡ x) × (w ≡ y)
