-- The first handover in the chain of a known block.
use Rattle.std.specs.Prelude.{◌≡◌, ◌⊎◌, ◌≤◌, List, Option, Some, None}
use Rattle.std.specs.List.{All, Contains}
use Rattle.blocks.specs.Chains.{IsAncestor}
use Rattle.blocks.specs.Headers.{Header}
use Rattle.blocks.specs.Weights.{committee_of}
use Rattle.ancestry.specs.Known.{Known, all_of}
use Rattle.audit_evidence.specs.Evidence.{Evidence, IsEvidence}
use Rattle.audit_commits.specs.Chosen.{AreCertifiedHeaders}
use Rattle.audit_commits.specs.Commits.{AreProvedCommits}
use Rattle.handover_blocks.specs.Handovers.{IsFirstCommitted, IsHandover}

-- a is the block b, or stands in its chain
abbrev pub IsInChainOf : Known → Header → Header → Type 0
IsInChainOf known a b = (a ≡ b) ⊎ IsAncestor (all_of known) known.genesis a b

-- it hands over, in the chain of the tip
pub record IsCandidate (known : Known) (tip h : Header) : Type 0 where
  pub hands_over : IsHandover h
  pub place : IsInChainOf known h tip

-- one of these, and none of these is below it
pub record IsLeastAmong (known : Known) (tip : Header) (hs : List Header) (b : Header) : Type 0 where
  pub there : Contains hs b
  pub candidate : IsCandidate known tip b
  pub least : All (λ h. IsCandidate known tip h → b.view ≤ h.view) hs

-- the least of these, if one is
abbrev pub IsBestOf : Known → Header → List Header → Option Header → Type 0
IsBestOf known tip hs None = All (λ h. IsCandidate known tip h → ⊥) hs
IsBestOf known tip hs (Some b) = IsLeastAmong known tip hs b

-- ---- over all commits

-- the certified headers of this evidence, and all of its proved commits
pub record AreCommitsOf (e : Evidence) (known : Known) (commits : List Header) : Type 0 where
  pub evidence : IsEvidence e
  pub certified : AreCertifiedHeaders e known
  pub proved : AreProvedCommits (committee_of e.committee) e commits

-- each first handover that the evidence proves is this block
abbrev pub IsOnlyHandover : Evidence → Header → Type 0
IsOnlyHandover e b = (d : Header) → IsFirstCommitted (committee_of e.committee) e IsHandover d → d ≡ b
