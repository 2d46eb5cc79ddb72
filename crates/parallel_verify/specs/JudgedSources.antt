-- Which logs are sound, and how many votes they name. docs/DEFINITIONS.md, "Sound sources".
use Rattle.std.specs.Prelude.{◌≡◌, ◌↔◌, ◌&&◌, ℕ, Bool, IsTrue, List, length, nat_eq}
use Rattle.std.specs.List.{AllPairs, Contains, list_all, list_any}
use Rattle.blocks.specs.Committees.{n_of, weight_at}
use Rattle.blocks.specs.Genesis.{genesis_of}
use Rattle.blocks.specs.Replay.{IsLegal}
use Rattle.blocks.specs.Weights.{weight_of}
use Rattle.certificates.specs.Votes.{IsGoodVote}
use Rattle.certificates.specs.VoteOrder.{IsLowerVote}
use Rattle.certificates.specs.declared.vote.SignedVote.{SignedVote}
use Rattle.log_format.specs.declared.status.Status.TheVariants.{Whole}
use Rattle.audit_evidence.specs.Evidence.{IsReportOf}
use Rattle.audit_evidence.specs.Logs.{HaveEntries, LogNamesVote, ReceivedLog}
use Rattle.parallel_verify.specs.Steps.{has_vote, steps_in}
use Rattle.parallel_verify.specs.declared.judging.Judgement.{Judgement}

-- it is whole, each frame is an entry, each vote that it names is good, its own as those of its replica, and the entries are legal
-- steps, one after the other, from genesis on
pub record IsSound (committee : List ℕ) (l : ReceivedLog) : Type 0 where
  pub whole : l.status ≡ Whole
  pub entries : HaveEntries l.frames (length l.frames)
  pub good : (v : SignedVote) → LogNamesVote l v → IsGoodVote committee v
  pub legal : IsLegal (genesis_of committee) (steps_in l.frames)

-- a vote that it names and that is good
abbrev pub NamesGoodVote : List ℕ → ReceivedLog → SignedVote → Type 0
NamesGoodVote committee l v = LogNamesVote l v × IsGoodVote committee v

-- so many different votes are of this kind
pub record AreCounted (Is : SignedVote → Type 0) (n : ℕ) : Type 0 where
  pub votes : List SignedVote
  pub rising : AllPairs IsLowerVote votes
  pub exact : (v : SignedVote) → Contains votes v ↔ Is v
  pub count : n ≡ length votes

-- what was found of the log
pub record IsJudged (committee : List ℕ) (l : ReceivedLog) (j : Judgement) : Type 0 where
  pub report : IsReportOf l j.report
  pub votes : AreCounted (LogNamesVote l) j.votes
  pub good : AreCounted (NamesGoodVote committee l) j.good
  pub sound : IsTrue j.sound ↔ IsSound committee l
  pub voted : IsSound committee l → j.has_voted ≡ has_vote (steps_in l.frames)

-- it is sound, and of this replica
abbrev pub is_sound_of : ℕ → Judgement → Bool
is_sound_of replica j = j.sound && nat_eq replica j.report.replica

-- one of them is
abbrev pub has_sound : List Judgement → ℕ → Bool
has_sound judged replica = list_any (is_sound_of replica) judged

-- the weight of the different replicas of which a log is sound
abbrev pub sound_weight : List ℕ → List Judgement → ℕ
sound_weight committee judged = weight_of (weight_at committee) (has_sound judged) (n_of committee)

-- each of them is
abbrev pub is_sound_one : Judgement → Bool
is_sound_one j = j.sound

abbrev pub are_sound : List Judgement → Bool
are_sound judged = list_all is_sound_one judged

-- the bad ones among these votes are just those that are not good
pub record AreBadAmong (committee : List ℕ) (votes bad : List SignedVote) : Type 0 where
  pub not_good : (v : SignedVote) → Contains bad v → IsGoodVote committee v → ⊥
  pub rest_good : (v : SignedVote) → Contains votes v → (Contains bad v → ⊥) → IsGoodVote committee v

-- of the votes that the log names just those that are not good are among these
abbrev pub SeparatesBad : List ℕ → ReceivedLog → List SignedVote → Type 0
SeparatesBad committee l bad = (v : SignedVote) → LogNamesVote l v → (Contains bad v → ⊥) ↔ IsGoodVote committee v

-- a vote of these that is not bad
abbrev pub IsKept : List SignedVote → List SignedVote → SignedVote → Type 0
IsKept votes bad v = Contains votes v × (Contains bad v → ⊥)

-- none of these votes is bad
abbrev pub AreAllKept : List SignedVote → List SignedVote → Type 0
AreAllKept votes bad = (v : SignedVote) → Contains votes v → Contains bad v → ⊥
