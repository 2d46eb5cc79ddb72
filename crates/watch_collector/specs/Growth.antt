-- What becomes of that which evidence proves, as evidence grows.
use Rattle.std.specs.Prelude.{◌≡◌, ◌≤◌, ℕ, List}
use Rattle.std.specs.List.{Contains}
use Rattle.blocks.specs.Headers.{Header, IsGenesis}
use Rattle.blocks.specs.Weights.{Committee}
use Rattle.certificates.specs.declared.vote.SignedVote.{SignedVote}
use Rattle.audit_evidence.specs.Evidence.{Evidence, IsEvidence, IsEvidenceOf, IsEvidenceRefusal, IsHeaderInEvidence}
use Rattle.audit_evidence.specs.Logs.{ReceivedLog}
use Rattle.audit_evidence.specs.declared.refusal.EvidenceRefusal.TheVariants.{Collision}
use Rattle.audit_commits.specs.AccountabilityLaws.{weight_among}
use Rattle.audit_commits.specs.Commits.{AreConflicting, AreFirstConflict, IsAtMost, IsProvedCommit}
use Rattle.audit_commits.specs.Culprits.{AreCulprits, IsCulprit, IsNamedPair, IsOffence, IsVoteAtMost}

-- ---- logs that grow

-- of the same replica's log at least these frames
pub record IsLonger (l m : ReceivedLog) : Type 0 where
  pub replica : m.replica ≡ l.replica
  pub frames : (x : List ℕ) → Contains l.frames x → Contains m.frames x

-- each of the logs has one beside it that is as long or longer
abbrev pub AreLonger : List ReceivedLog → List ReceivedLog → Type 0
AreLonger ls ms = (l : ReceivedLog) → Contains ls l → (m : ReceivedLog) × Contains ms m × IsLonger l m

-- ---- evidence that grows

-- f has under the same committee all that e has
pub record IsWithin (e f : Evidence) : Type 0 where
  pub committee : f.committee ≡ e.committee
  pub headers : (h : Header) → Contains e.headers h → Contains f.headers h
  pub votes : (v : SignedVote) → Contains e.votes v → Contains f.votes v

abbrev pub LongerLogsShowMore : Type 0
LongerLogsShowMore =
    (committee : List ℕ) (ls ms : List ReceivedLog) (e f : Evidence)
    → AreLonger ls ms → IsEvidenceOf committee ls e → IsEvidenceOf committee ms f → IsWithin e f

-- where two headers of one id came, there is no evidence of what comes later either
abbrev pub ACollisionStays : Type 0
ACollisionStays =
    (committee : List ℕ) (ls ms : List ReceivedLog) (h k : Header)
    → AreLonger ls ms → IsEvidenceRefusal (IsHeaderInEvidence committee ls) (Collision h k)
    → IsEvidenceRefusal (IsHeaderInEvidence committee ms) (Collision h k)

-- ---- what stays

abbrev pub OffencesStay : Type 0
OffencesStay = (e f : Evidence) (r : ℕ) (v w : SignedVote) → IsWithin e f → IsOffence e r v w → IsOffence f r v w

abbrev pub CulpritsStay : Type 0
CulpritsStay = (e f : Evidence) (r : ℕ) → IsWithin e f → IsCulprit e r → IsCulprit f r

abbrev pub CommitsStay : Type 0
CommitsStay = (c : Committee) (e f : Evidence) (b : Header) → IsWithin e f → IsProvedCommit c e b → IsProvedCommit c f b

abbrev pub ConflictsStay : Type 0
ConflictsStay =
    (c : Committee) (e f : Evidence) (a b : Header)
    → IsGenesis c.genesis → IsEvidence f → IsWithin e f → AreConflicting c e a b → AreConflicting c f a b

abbrev pub AccusedWeightGrows : Type 0
AccusedWeightGrows =
    (c : Committee) (e f : Evidence) (qs rs : List ℕ)
    → IsWithin e f → AreCulprits e qs → AreCulprits f rs → weight_among c qs ≤ weight_among c rs

-- ---- what may become lesser, and never greater

-- the later vote of the pair that is named
abbrev pub NamedPairsFall : Type 0
NamedPairsFall =
    (e f : Evidence) (r : ℕ) (v w x y : SignedVote)
    → IsWithin e f → IsNamedPair e r v w → IsNamedPair f r x y → IsVoteAtMost y w

-- the first of the two commits that are named
abbrev pub FirstConflictsFall : Type 0
FirstConflictsFall =
    (c : Committee) (e f : Evidence) (a b x y : Header)
    → IsGenesis c.genesis → IsEvidence f → IsWithin e f → AreFirstConflict c e a b → AreFirstConflict c f x y → IsAtMost x a
