-- Evidence: what the logs of replicas show together. docs/DEFINITIONS.md, "Evidence".
use Rattle.std.specs.Prelude.{◌≡◌, ◌≢◌, ◌⊎◌, ◌↔◌, ◌≤◌, ℕ, List, length, ⊤}
use Rattle.std.specs.List.{All, AllPairs, AllZip, Contains}
use Rattle.blocks.specs.Genesis.{genesis_of}
use Rattle.blocks.specs.Headers.{Header, HasLowerId, header_id}
use Rattle.certificates.specs.Votes.{IsGoodVote}
use Rattle.certificates.specs.declared.vote.SignedVote.{SignedVote}
use Rattle.audit_evidence.specs.declared.refusal.EvidenceRefusal.{EvidenceRefusal}
use Rattle.audit_evidence.specs.declared.refusal.EvidenceRefusal.TheVariants.{Memory, Collision}
use Rattle.audit_evidence.specs.declared.source.SourceReport.{SourceReport}
use Rattle.audit_evidence.specs.Sets.{InSome}
use Rattle.audit_evidence.specs.Logs.{ReceivedLog, HaveEntries, LogHasHeader, LogHasVote}
use Rattle.certificates.specs.VoteOrder.{IsLowerVote}

-- ---- what is in evidence

-- genesis, and the headers of all entries
abbrev pub IsHeaderInEvidence : List ℕ → List ReceivedLog → Header → Type 0
IsHeaderInEvidence committee logs h = (h ≡ genesis_of committee) ⊎ InSome LogHasHeader logs h

-- the good votes of all entries
abbrev pub IsVoteInEvidence : List ℕ → List ReceivedLog → SignedVote → Type 0
IsVoteInEvidence committee logs v = InSome (LogHasVote committee) logs v

-- of a log: its replica, how it ends, how many frames came, and how many of them spell entries
pub record IsReportOf (l : ReceivedLog) (r : SourceReport) : Type 0 where
  pub replica : r.replica ≡ l.replica
  pub status : r.status ≡ l.status
  pub count : r.frames ≡ length l.frames
  pub entries : HaveEntries l.frames r.entries

-- ---- evidence

-- of a committee the headers, the votes, and a report of each source
pub record Evidence : Type 0 where
  pub committee : List ℕ
  pub headers : List Header
  pub votes : List SignedVote
  pub sources : List SourceReport

-- the header's view is not below that of its parent
abbrev pub IsNotBelowParent : Header → Type 0
IsNotBelowParent h = h.parent_view ≤ h.view

-- headers rise by id, so that no two have one id, none is below its parent, and genesis is one of them; votes rise, and
-- each is good
pub record IsEvidence (e : Evidence) : Type 0 where
  pub headers_rise : AllPairs HasLowerId e.headers
  pub views_fall : All IsNotBelowParent e.headers
  pub votes_rise : AllPairs IsLowerVote e.votes
  pub genesis : Contains e.headers (genesis_of e.committee)
  pub good : (v : SignedVote) → Contains e.votes v → IsGoodVote e.committee v

-- it is the union of what the logs show
pub record IsEvidenceOf (committee : List ℕ) (logs : List ReceivedLog) (e : Evidence) : Type 0 where
  pub under : e.committee ≡ committee
  pub headers : (h : Header) → Contains e.headers h ↔ IsHeaderInEvidence committee logs h
  pub votes : (v : SignedVote) → Contains e.votes v ↔ IsVoteInEvidence committee logs v
  pub reports : AllZip IsReportOf logs e.sources

-- ---- why there is none

-- two different headers of this kind have one id
abbrev pub IsEvidenceRefusal : (Header → Type 0) → EvidenceRefusal → Type 0
IsEvidenceRefusal Is Memory = ⊤
IsEvidenceRefusal Is (Collision h k) = Is h × Is k × (h ≢ k) × (header_id h ≡ header_id k)

abbrev pub evidence_refusal_number : EvidenceRefusal → ℕ
evidence_refusal_number Memory = 1
evidence_refusal_number (Collision h k) = 2
