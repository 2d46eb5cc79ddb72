-- What comes of sources that are read frame by frame. docs/DEFINITIONS.md, "Evidence".
use Rattle.std.specs.Prelude.{◌≡◌, ℕ, List, length, ⊤}
use Rattle.std.specs.List.{AllZip}
use Rattle.log_format.specs.declared.status.Status.{Status}
use Rattle.log_transfer.specs.Connections.{Connection}
use Rattle.log_transfer.specs.Places.{HasCause, IsFetched, IsOutcome, Leads, MayTry}
use Rattle.log_transfer.specs.declared.reader_state.ReaderState.{ReaderState}
use Rattle.audit_evidence.specs.Evidence.{Evidence, IsEvidenceOf, IsEvidenceRefusal, IsHeaderInEvidence}
use Rattle.audit_evidence.specs.Gathering.{Gathered, Grows}
use Rattle.audit_evidence.specs.Logs.{ReceivedLog, FrameHasHeader, FrameNamesVote, HaveEntries}
use Rattle.audit_evidence.specs.Sets.{InSome}
use Rattle.audit_evidence.specs.declared.refusal.EvidenceRefusal.{EvidenceRefusal}
use Rattle.audit_evidence.specs.declared.refusal.EvidenceRefusal.TheVariants.{Memory, Collision}
use Rattle.audit_evidence.specs.declared.source.SourceReport.{SourceReport}
use Rattle.parallel_verify.specs.declared.source.Source.{Source}

-- ---- of all sources

-- a log that a source of this replica may give in so many tries
pub record IsLogOfSource (gives : ℕ → ℕ → ℕ → Connection → Type 0) (tries replica : ℕ) (l : ReceivedLog) : Type 0 where
  pub of : l.replica ≡ replica
  pub fetched : IsFetched gives tries l.frames l.status

-- .. this source
abbrev pub MayGive : {C : Type 0} → (C → ℕ → ℕ → ℕ → Connection → Type 0) → Source C → ReceivedLog → Type 0
MayGive gives s l = IsLogOfSource (gives s.connector) s.tries s.replica l

-- calls of the connector reach some state, and where the status is Failed, its failures rose up to there
pub record IsCausedIn {C : Type 0} (reaches : C → C → Type 0) (failed : C → ℕ) (before : C) (status : Status) : Type 0 where
  pub after : C
  pub reached : reaches before after
  pub cause : HasCause (failed before) (failed after) status

-- .. the connector of this source
abbrev pub MayFail : {C : Type 0} → (C → C → Type 0) → (C → ℕ) → Source C → SourceReport → Type 0
MayFail reaches failed s r = IsCausedIn reaches failed s.connector r.status

-- a reader may make so many connections to the source
abbrev pub MayBeTried : {C : Type 0} → (C → ℕ) → Source C → Type 0
MayBeTried allowed s = MayTry (allowed s.connector) s.tries

-- it is the evidence of logs, one for each source
pub record IsEvidenceOfSources {S : Type 0} (Gives : S → ReceivedLog → Type 0) (committee : List ℕ) (sources : List S) (e : Evidence) : Type 0 where
  pub logs : List ReceivedLog
  pub given : AllZip Gives sources logs
  pub evidence : IsEvidenceOf committee logs e

-- two different headers in logs, one for each source, have one id
pub record HaveCollision {S : Type 0} (Gives : S → ReceivedLog → Type 0) (committee : List ℕ) (sources : List S) (refusal : EvidenceRefusal) : Type 0 where
  pub logs : List ReceivedLog
  pub given : AllZip Gives sources logs
  pub collision : IsEvidenceRefusal (IsHeaderInEvidence committee logs) refusal

abbrev pub IsRefusalOfSources : {S : Type 0} → (S → ReceivedLog → Type 0) → List ℕ → List S → EvidenceRefusal → Type 0
IsRefusalOfSources Gives committee sources Memory = ⊤
IsRefusalOfSources Gives committee sources (Collision h k) = HaveCollision Gives committee sources (Collision h k)

-- ---- of one source, frame by frame

-- the log that may come from a place on
pub record IsLogFrom (gives : ℕ → ℕ → ℕ → Connection → Type 0) (p : ReaderState) (replica : ℕ) (l : ReceivedLog) : Type 0 where
  pub of : l.replica ≡ replica
  pub outcome : IsOutcome gives 0 p.held p.tries p.last l.frames l.status

-- where the reader of a source is: what its connector gives, what its connection has left, and its place
pub record SourceReader : Type 1 where
  pub gives : ℕ → ℕ → ℕ → Connection → Type 0
  pub left : Connection → Type 0
  pub place : ReaderState

abbrev pub reader_at : (ℕ → ℕ → ℕ → Connection → Type 0) → (Connection → Type 0) → ReaderState → SourceReader
reader_at gives left place = record { gives = gives; left = left; place = place }

-- the replica of a source, and how many frames and entries came of it
pub record Tally : Type 0 where
  pub replica : ℕ
  pub frames : ℕ
  pub entries : ℕ

abbrev pub tally_of : (replica frames entries : ℕ) → Tally
tally_of replica frames entries = record { replica = replica; frames = frames; entries = entries }

-- frames that came from one state of the reader to another, of which this was told, and what was gathered of them
pub record IsGathering (Told : List (List ℕ) → Type 0) (old new : SourceReader) (a b : Gathered) (came : Tally) : Type 0 where
  pub given : List (List ℕ)
  pub told : Told given
  pub leads : Leads old.gives new.gives old.left new.left old.place new.place given
  pub grown : Grows a b (InSome FrameHasHeader given) (InSome (FrameNamesVote came.replica) given)
  pub have : HaveEntries given came.entries
  pub counted : came.frames ≡ length given
