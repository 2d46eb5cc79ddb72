-- What one reading of sources gives. docs/DEFINITIONS.md, "Sound sources".
use Rattle.std.specs.Prelude.{◌≡◌, ℕ, List, [], ◌∷◌, Option, Some, Err, Result, map, ⊤}
use Rattle.std.specs.List.{AllZip, Contains}
use Rattle.certificates.specs.declared.vote.SignedVote.{SignedVote}
use Rattle.log_format.specs.declared.status.Status.{Status}
use Rattle.log_transfer.specs.declared.connector.Connector.{Ghosts}
use Rattle.audit_evidence.specs.Evidence.{Evidence, IsEvidenceOf}
use Rattle.audit_evidence.specs.Logs.{ReceivedLog}
use Rattle.audit_evidence.specs.declared.refusal.EvidenceRefusal.{EvidenceRefusal}
use Rattle.audit_evidence.specs.declared.refusal.EvidenceRefusal.TheVariants.{Memory, Collision}
use Rattle.parallel_verify.specs.Collections.{MayBeTried, MayFail, MayGive}
use Rattle.parallel_verify.specs.JudgedSources.{IsJudged, SeparatesBad}
use Rattle.parallel_verify.specs.Parts.{IsGathered, IsPartOn, Part}
use Rattle.parallel_verify.specs.declared.judging.Judgement.{Judgement}
use Rattle.parallel_verify.specs.declared.judging.Judging.{Judging}
use Rattle.parallel_verify.specs.declared.judging.Judging.TheVariants.{Each}
use Rattle.parallel_verify.specs.declared.source.Observed.{Observed}
use Rattle.parallel_verify.specs.declared.source.Source.{Source}

-- ---- sources and who is shown them

abbrev pub source_of : {C O : Type 0} → Observed C O → Source C
source_of o = o.source

abbrev pub sources_of : {C O : Type 0} → List (Observed C O) → List (Source C)
sources_of os = map source_of os

-- a reader may make so many connections to the source
abbrev pub MayBeTriedIn : {C O : Type 0} → (C → ℕ) → Observed C O → Type 0
MayBeTriedIn allowed o = MayBeTried allowed o.source

-- from a first state of an observer to a later one it was told of these frames, and how they end, if they have
abbrev pub Tells : Type 0 → Type 1
Tells O = O → O → List (List ℕ) → Option Status → Type 0

-- each observer was told of the frames of its log, and how they end
abbrev pub AreTold : {C O : Type 0} → Tells O → List (Observed C O) → List ReceivedLog → List O → Type 0
AreTold told [] [] [] = ⊤
AreTold told (o ∷ os) (l ∷ ls) (p ∷ ps) = told o.observer p l.frames (Some l.status) × AreTold told os ls ps
AreTold told _ _ _ = ⊥

-- ---- a reading

-- of one list of logs, each of which its source may give: the evidence, with a cause for each source that failed; what was found of
-- each log, if it was to be judged; and what each observer was told of
pub record IsReadingOf {C O : Type 0} (connector : Ghosts C) (told : Tells O) (committee : List ℕ) (judging : Judging) (sources : List (Observed C O)) (e : Evidence) (js : List Judgement) (after : List O) : Type 0 where
  pub logs : List ReceivedLog
  pub given : AllZip (MayGive connector.gives) (sources_of sources) logs
  pub evidence : IsEvidenceOf committee logs e
  pub caused : AllZip (MayFail connector.reaches connector.failed) (sources_of sources) e.sources
  pub judged : judging ≡ Each → AllZip (IsJudged committee) logs js
  pub seen : AreTold told sources logs after

-- ---- its steps

-- the thread of a source gave this
abbrev pub IsOutcome : {C O : Type 0} → Ghosts C → Tells O → List ℕ → Observed C O → Result Part EvidenceRefusal × O → Type 0
IsOutcome connector told committee o out =
    IsGathered connector.gives connector.reaches connector.failed (told o.observer out.1) o.source.connector o.source.tries o.source.replica committee out.0

-- one of these is refused so, or memory was
abbrev pub IsRefusedAmong : {O : Type 0} → List (Result Part EvidenceRefusal × O) → EvidenceRefusal → Type 0
IsRefusedAmong outs Memory = ⊤
IsRefusedAmong {O} outs (Collision h k) = (out : Result Part EvidenceRefusal × O) × Contains outs out × (out.0 ≡ Err (Collision h k))

abbrev pub IsCausedPart : {C : Type 0} → Ghosts C → Source C → Part → Type 0
IsCausedPart connector s p = MayFail connector.reaches connector.failed s p.report

-- a part of each of these sources, of one list of logs
pub record AreGathered {C O : Type 0} (connector : Ghosts C) (told : Tells O) (committee : List ℕ) (sources : List (Observed C O)) (ps : List Part) (after : List O) : Type 0 where
  pub logs : List ReceivedLog
  pub given : AllZip (MayGive connector.gives) (sources_of sources) logs
  pub parts : AllZip (IsPartOn committee) logs ps
  pub caused : AllZip (IsCausedPart connector) (sources_of sources) ps
  pub seen : AreTold told sources logs after

-- .. what was found of its log, where those votes of it that are not good are these
abbrev pub IsJudgedBy : List ℕ → List SignedVote → Part → Judgement → Type 0
IsJudgedBy committee bad p j = (l : ReceivedLog) → IsPartOn committee l p → SeparatesBad committee l bad → IsJudged committee l j
