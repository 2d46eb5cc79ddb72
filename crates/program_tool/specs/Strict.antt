-- Whether an audit that found no culprit read enough: `--strict` and `--strict-all`.
use Rattle.std.specs.Borrow.{Bor}
use Rattle.std.specs.Prelude.{◌≡◌, ◌<◌, ◌≤◌, ◌⊎◌, ◌++◌, ℕ, List, None, Option, codes, decimal, false, true, ⊤}
use Rattle.std.specs.List.{AllZip}
use Rattle.blocks.specs.Weights.{quorum_of}
use Rattle.audit_evidence.specs.Logs.{ReceivedLog}
use Rattle.parallel_verify.specs.JudgedSources.{IsJudged, are_sound, sound_weight}
use Rattle.parallel_verify.specs.declared.judging.Judgement.{Judgement}
use Rattle.parallel_verify.specs.declared.judging.Judging.{Judging}
use Rattle.parallel_verify.specs.declared.judging.Judging.TheVariants.{Each}
use Rattle.culprit_search.specs.Reports.{Report}
use Rattle.program_words.specs.declared.command.Strictness.{Strictness}
use Rattle.program_words.specs.declared.command.Strictness.TheVariants.{Lax, Quorum, All}

-- the different replicas of sound sources weigh a quorum at least, and where all are asked for each source is sound
abbrev pub HoldsUp : Strictness → List ℕ → List Judgement → Type 0
HoldsUp Lax committee judged = ⊤
HoldsUp Quorum committee judged = quorum_of committee ≤ sound_weight committee judged
HoldsUp All committee judged = (quorum_of committee ≤ sound_weight committee judged) × (are_sound judged ≡ true)

-- they weigh less, or a source is not sound where all are asked for
abbrev pub FallsShort : Strictness → List ℕ → List Judgement → Type 0
FallsShort Lax committee judged = ⊥
FallsShort Quorum committee judged = sound_weight committee judged < quorum_of committee
FallsShort All committee judged = (sound_weight committee judged < quorum_of committee) ⊎ (are_sound judged ≡ false)

-- this holds of what was found of the logs
pub record AreFoundTo (Is : List ℕ → List Judgement → Type 0) (committee : List ℕ) (logs : List ReceivedLog) : Type 0 where
  pub judged : List Judgement
  pub each : AllZip (IsJudged committee) logs judged
  pub is : Is committee judged

-- just this was found of them, if they were to be judged, and this is the report
pub record AreFound (judging : Judging) (judged : List Judgement) (report : Report) (committee : List ℕ) (logs : List ReceivedLog) (r : Report) : Type 0 where
  pub each : judging ≡ Each → AllZip (IsJudged committee) logs judged
  pub is : r ≡ report

-- they are judged, or nothing is asked of them, and no report for programs
pub record AreJudgedFor (strictness : Strictness) (json : Option (Bor (List ℕ))) (judging : Judging) : Type 0 where
  pub strict : (judging ≡ Each) ⊎ (strictness ≡ Lax)
  pub reported : (judging ≡ Each) ⊎ (json ≡ None)

-- the logs are enough, and they are too few
unfoldable pub AreEnough : Strictness → List ℕ → List ReceivedLog → Type 0
AreEnough Lax committee logs = ⊤
AreEnough Quorum committee logs = AreFoundTo (HoldsUp Quorum) committee logs
AreEnough All committee logs = AreFoundTo (HoldsUp All) committee logs

unfoldable pub AreTooFew : Strictness → List ℕ → List ReceivedLog → Type 0
AreTooFew strictness committee logs = AreFoundTo (FallsShort strictness) committee logs

-- "why sound S of T, quorum Q"
abbrev pub sound_line : (sound total quorum : ℕ) → List ℕ
sound_line sound total quorum = codes "why sound " ++ decimal sound ++ codes " of " ++ decimal total ++ codes ", quorum " ++ decimal quorum ++ codes "\n"
