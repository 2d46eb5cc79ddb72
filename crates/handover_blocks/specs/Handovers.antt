-- A committee whose keys are nearly spent hands its ledger over: it commits a block that names the file of the next one.
use Rattle.std.specs.Prelude.{◌≡◌, ◌≢◌, ◌<◌, ◌≤◌, ◌++◌, ℕ, List, [], ◌∷◌, codes, take}
use Rattle.std.specs.List.{Contains}
use Rattle.sha2.specs.Sha256.{sha256}
use Rattle.blocks.specs.Headers.{Header}
use Rattle.blocks.specs.Weights.{Committee, committee_of}
use Rattle.certificates.specs.declared.vote.SignedVote.{SignedVote}
use Rattle.audit_evidence.specs.Evidence.{Evidence}
use Rattle.audit_commits.specs.Commits.{IsProvedCommit}

-- ---- which blocks hand over

-- four bytes that no other payload begins with, so that a handover is seen in the header alone, without the file
abbrev pub handover_mark : List ℕ
handover_mark = codes "HSN1"

-- .. and of the digest of the new committee's file the first 28 bytes
unfoldable pub handover_payload : List ℕ → List ℕ
handover_payload new = handover_mark ++ take 28 (sha256 new)

-- the block hands over to some committee
pub record IsHandover (b : Header) : Type 0 where
  pub above : 0 < b.view
  pub mark : take 4 b.payload ≡ handover_mark

-- ---- the first of a kind on a committed chain

-- it stands in the chain of a proved commit, or is that commit, and none of the kind stands below it
pub record IsFirstCommitted (c : Committee) (e : Evidence) (Is : Header → Type 0) (b : Header) : Type 0 where
  pub tip : Header
  pub commit : IsProvedCommit c e tip
  pub place : Contains (tip ∷ commit.chain) b
  pub kind : Is b
  pub first : (h : Header) → Contains (tip ∷ commit.chain) h → Is h → b.view ≤ h.view

-- ---- successors

-- evidence on a committee proves that this one comes next: the first handover on a committed chain names it
pub record IsSuccessor (e : Evidence) (new : List ℕ) : Type 0 where
  pub block : Header
  pub first : IsFirstCommitted (committee_of e.committee) e IsHandover block
  pub names : block.payload ≡ handover_payload new

-- ---- evidence that includes other evidence

pub record Includes (e part : Evidence) : Type 0 where
  pub committee : part.committee ≡ e.committee
  pub headers : (h : Header) → Contains part.headers h → Contains e.headers h
  pub votes : (v : SignedVote) → Contains part.votes v → Contains e.votes v

-- ---- lineages

-- a committee's file and the evidence on the one before that proves it
pub record Step : Type 0 where
  pub evidence : Evidence
  pub new : List ℕ

-- from this committee on, each by evidence on the one before
abbrev pub IsLineage : List ℕ → List Step → Type 0
IsLineage root [] = Unit {0}
IsLineage root (s ∷ ss) = (s.evidence.committee ≡ root) × IsSuccessor s.evidence s.new × IsLineage s.new ss

-- as far as both go they name the same committees
abbrev pub AreAlike : List Step → List Step → Type 0
AreAlike [] ys = Unit {0}
AreAlike (x ∷ xs) [] = Unit {0}
AreAlike (x ∷ xs) (y ∷ ys) = (x.new ≡ y.new) × AreAlike xs ys

-- of one committee each proves a successor, and these differ
pub record PartAt (xs ys : List Step) (s t : Step) : Type 0 where
  pub in_first : Contains xs s
  pub in_second : Contains ys t
  pub one_committee : s.evidence.committee ≡ t.evidence.committee
  pub first : IsSuccessor s.evidence s.new
  pub second : IsSuccessor t.evidence t.new
  pub differ : s.new ≢ t.new
