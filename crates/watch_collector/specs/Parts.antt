-- A part of a log, and what it names. docs/DEFINITIONS.md, "Watching".
use Rattle.std.specs.Prelude.{◌≡◌, ◌⊎◌, ◌↔◌, ℕ, List, length}
use Rattle.std.specs.List.{Contains}
use Rattle.blocks.specs.Genesis.{genesis_of}
use Rattle.blocks.specs.Headers.{Header}
use Rattle.certificates.specs.declared.vote.SignedVote.{SignedVote}
use Rattle.log_format.specs.declared.status.Status.{Status}
use Rattle.audit_evidence.specs.Evidence.{IsReportOf}
use Rattle.audit_evidence.specs.Gathering.{Gathered}
use Rattle.audit_evidence.specs.Logs.{FrameHasHeader, FrameNamesVote, HaveEntries, LogHasHeader, LogNamesVote, ReceivedLog}
use Rattle.audit_evidence.specs.Sets.{InSome}
use Rattle.audit_evidence.specs.declared.source.SourceReport.{SourceReport}

-- ---- while frames come

-- what frames of a replica's log named so far, how many they are, and how many of them are entries
pub record Making : Type 0 where
  pub replica : ℕ
  pub gathered : Gathered
  pub frames : ℕ
  pub entries : ℕ

-- genesis, or a header of one of these frames
abbrev pub IsInFrames : List ℕ → List (List ℕ) → Header → Type 0
IsInFrames committee frames h = (h ≡ genesis_of committee) ⊎ InSome FrameHasHeader frames h

-- it has what these frames name, and genesis
pub record IsMadeOf (committee : List ℕ) (frames : List (List ℕ)) (m : Making) : Type 0 where
  pub under : m.gathered.committee ≡ committee
  pub headers : (h : Header) → Contains m.gathered.headers h ↔ IsInFrames committee frames h
  pub votes : (v : SignedVote) → Contains m.gathered.votes v ↔ InSome (FrameNamesVote m.replica) frames v
  pub count : m.frames ≡ length frames
  pub entries : HaveEntries frames m.entries

-- ---- a part

-- what a part of a log names, and how it did
pub record PartValue : Type 0 where
  pub listing : Gathered
  pub report : SourceReport

-- these frames of the replica's log, which end so
abbrev pub part_log : ℕ → List (List ℕ) → Status → ReceivedLog
part_log replica frames status = record { replica = replica; frames = frames; status = status }

-- genesis, or a header of the log
abbrev pub IsInPart : List ℕ → ReceivedLog → Header → Type 0
IsInPart committee l h = (h ≡ genesis_of committee) ⊎ LogHasHeader l h

-- the part has what this log names, and genesis, and the log's report
pub record IsPartOn (committee : List ℕ) (l : ReceivedLog) (p : PartValue) : Type 0 where
  pub under : p.listing.committee ≡ committee
  pub headers : (h : Header) → Contains p.listing.headers h ↔ IsInPart committee l h
  pub votes : (v : SignedVote) → Contains p.listing.votes v ↔ LogNamesVote l v
  pub report : IsReportOf l p.report
