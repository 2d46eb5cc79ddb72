-- What the thread of a source gives.
use Rattle.std.specs.Prelude.{◌≡◌, ◌↔◌, ℕ, Bool, IsTrue, List, Option, Some, Result, Ok, Err, IfOk}
use Rattle.std.specs.List.{Contains}
use Rattle.blocks.specs.Genesis.{genesis_of}
use Rattle.blocks.specs.Headers.{Header}
use Rattle.blocks.specs.Replay.{IsLegal}
use Rattle.certificates.specs.declared.vote.SignedVote.{SignedVote}
use Rattle.log_transfer.specs.Connections.{Connection}
use Rattle.log_format.specs.declared.status.Status.{Status}
use Rattle.audit_evidence.specs.Evidence.{IsEvidenceRefusal, IsReportOf}
use Rattle.audit_evidence.specs.Gathering.{Gathered, Grows}
use Rattle.audit_evidence.specs.Logs.{ReceivedLog, LogHasHeader, LogNamesVote}
use Rattle.audit_evidence.specs.NamedVotes.{all_votes}
use Rattle.audit_evidence.specs.Sets.{IsEither}
use Rattle.audit_evidence.specs.declared.refusal.EvidenceRefusal.{EvidenceRefusal}
use Rattle.audit_evidence.specs.declared.source.SourceReport.{SourceReport}
use Rattle.parallel_verify.specs.Collections.{IsCausedIn, IsLogOfSource}
use Rattle.parallel_verify.specs.Steps.{has_vote, steps_in}

-- what one source names, its report, whether its entries are legal steps, one after the other, and whether one of them has a vote of
-- its replica
pub record Part : Type 0 where
  pub headers : List Header
  pub votes : List SignedVote
  pub certificates : List (List SignedVote)
  pub report : SourceReport
  pub are_legal : Bool
  pub has_voted : Bool

abbrev pub IsGenesisOf : List ℕ → Header → Type 0
IsGenesisOf committee h = h ≡ genesis_of committee

-- genesis, or a header that the log shows
abbrev pub PartHasHeader : List ℕ → ReceivedLog → Header → Type 0
PartHasHeader committee l = IsEither (IsGenesisOf committee) (LogHasHeader l)

-- of frames that are all entries: whether these are legal steps, and whether one of them has a vote of the replica
pub record TellsSteps (genesis : Header) (frames : List (List ℕ)) (are_legal has_voted : Bool) : Type 0 where
  pub legal : IsTrue are_legal ↔ IsLegal genesis (steps_in frames)
  pub voted : has_voted ≡ has_vote (steps_in frames)

-- the part has what the log names, and genesis
pub record IsPartOn (committee : List ℕ) (l : ReceivedLog) (p : Part) : Type 0 where
  pub headers : (h : Header) → Contains p.headers h ↔ PartHasHeader committee l h
  pub votes : (v : SignedVote) → Contains (all_votes p.votes p.certificates) v ↔ LogNamesVote l v
  pub report : IsReportOf l p.report
  pub steps : p.report.entries ≡ p.report.frames → TellsSteps (genesis_of committee) l.frames p.are_legal p.has_voted

abbrev pub IsResultOn : List ℕ → ReceivedLog → Result Part EvidenceRefusal → Type 0
IsResultOn committee l (Ok p) = IsPartOn committee l p
IsResultOn committee l (Err e) = IsEvidenceRefusal (PartHasHeader committee l) e

-- the part's report is this
abbrev pub HasReport : Part → SourceReport → Type 0
HasReport p r = r ≡ p.report

-- the result is that of a log which the source may give, and where the status is Failed, its failures rose
pub record IsGathered {C : Type 0} (gives : C → ℕ → ℕ → ℕ → Connection → Type 0) (reaches : C → C → Type 0) (failed : C → ℕ) (told : List (List ℕ) → Option Status → Type 0) (connector : C) (tries replica : ℕ) (committee : List ℕ) (r : Result Part EvidenceRefusal) : Type 0 where
  pub log : ReceivedLog
  pub of : IsLogOfSource (gives connector) tries replica log
  pub result : IsResultOn committee log r
  pub cause : IfOk r (λ p. IsCausedIn reaches failed connector p.report.status)
  pub seen : IfOk r (λ p. told log.frames (Some log.status))

-- a part was joined to what was gathered
pub record IsJoined (old new : Gathered) (l : ReceivedLog) (r : SourceReport) : Type 0 where
  pub grown : Grows old new (PartHasHeader old.committee l) (LogNamesVote l)
  pub report : IsReportOf l r
