-- Files that prove a handover.
use Rattle.std.specs.Prelude.{◌≡◌, ◌<◌, ◌≤◌, ℕ, List, false}
use Rattle.std.specs.List.{AllZip}
use Rattle.blocks.specs.Committees.{n_of}
use Rattle.blocks.specs.Headers.{Header}
use Rattle.certificates.specs.declared.vote.SignedVote.{SignedVote}
use Rattle.blocks.specs.Weights.{committee_of}
use Rattle.log_format.specs.Readings.{IsReading}
use Rattle.audit_evidence.specs.Evidence.{Evidence, IsEvidenceOf, IsEvidenceRefusal, IsHeaderInEvidence}
use Rattle.audit_evidence.specs.declared.refusal.EvidenceRefusal.{EvidenceRefusal}
use Rattle.audit_evidence.specs.Logs.{ReceivedLog}
use Rattle.audit_commits.specs.Commits.{HasNoConflict}
use Rattle.handover_blocks.specs.Handovers.{IsFirstCommitted, IsHandover}

-- the committee has the vote's replica, and the vote is above genesis
pub record MayBeAssembled (committee : List ℕ) (v : SignedVote) : Type 0 where
  pub known : v.replica < n_of committee
  pub after_genesis : 1 ≤ v.view

-- the log is what this text is read as, said to be replica 0's
pub record IsLogOf (text : List ℕ) (l : ReceivedLog) : Type 0 where
  pub replica : l.replica ≡ 0
  pub reading : IsReading 0 text false l.frames l.status

-- no commits conflict, and this block is the first that hands over on the chain that is committed
pub record IsHandedOverBy (e : Evidence) (b : Header) : Type 0 where
  pub agree : HasNoConflict (committee_of e.committee) e
  pub first : IsFirstCommitted (committee_of e.committee) e IsHandover b

-- the evidence of the logs that these texts are read as
pub record ProveHandover (committee : List ℕ) (texts : List (List ℕ)) (b : Header) : Type 0 where
  pub logs : List ReceivedLog
  pub read : AllZip IsLogOf texts logs
  pub evidence : Evidence
  pub is_evidence : IsEvidenceOf committee logs evidence
  pub by : IsHandedOverBy evidence b

-- memory was refused, or two different headers in the evidence of some logs have one id
abbrev pub IsProofRefusal : List ℕ → EvidenceRefusal → Type 0
IsProofRefusal committee e = (logs : List ReceivedLog) × IsEvidenceRefusal (IsHeaderInEvidence committee logs) e
