-- Why a source is not sound, and the words that say so.
use Rattle.std.specs.Prelude.{◌≡◌, ◌≢◌, ◌⊎◌, ◌-◌, ◌++◌, ◌==◌, ℕ, Bool, List, Option, None, Some, codes, decimal, false, true, if◌then◌else◌}
use Rattle.log_format.specs.declared.status.Status.{Status}
use Rattle.log_format.specs.declared.status.Status.TheVariants.{Whole, Cut, Broken, TooLong, Failed}
use Rattle.log_transfer.specs.declared.failure.Failure.{Failure}
use Rattle.log_transfer.specs.declared.failure.Failure.TheVariants.{NoSuchFile, Folder, Unreadable, NoSuchHost, Refused, Reset, TimedOut}
use Rattle.parallel_verify.specs.declared.judging.Judgement.{Judgement}
use Rattle.audit_run.specs.declared.reason.Reason.{Reason}
use Rattle.audit_run.specs.declared.reason.Reason.TheVariants.{Call, Early, NoExport, Old, Frames, Votes, Steps}
use Rattle.audit_run.specs.declared.reason.Note.{Note}
use Rattle.audit_run.specs.declared.reason.Note.TheVariants.{Empty, NoVote}
use Rattle.audit_run.specs.declared.reason.Stranger.{Stranger}
use Rattle.audit_run.specs.declared.reason.Stranger.TheVariants.{Unknown, Journal, Committee, Verdict, Seed}

-- why a call failed, where it is known
abbrev pub failure_or : Option Failure → Failure
failure_or None = Unreadable
failure_or (Some failure) = failure

-- of a whole log the first reason that holds
abbrev pub whole_reason : Judgement → Bool → Reason
whole_reason j is_old =
    if j.report.entries == j.report.frames then (if j.good == j.votes then Steps else Votes j.votes j.good)
    else if is_old then Old
    else Frames (j.report.frames - j.report.entries)

-- of a log that ended so
abbrev pub reason_by : Judgement → Option Failure → Stranger → Bool → Status → Reason
reason_by j failure stranger is_old Failed = Call (failure_or failure)
reason_by j failure stranger is_old Cut = Early
reason_by j failure stranger is_old Broken = NoExport stranger
reason_by j failure stranger is_old TooLong = NoExport stranger
reason_by j failure stranger is_old Whole = whole_reason j is_old

-- the first reason that holds of a log of which this was found, and none where it is sound
abbrev pub why : Judgement → Option Failure → Stranger → Bool → Option Reason
why j failure stranger is_old =
    if j.sound then None else Some (reason_by j failure stranger is_old j.report.status)

-- ---- whatever stands beside what was found

-- it is the first reason that holds
abbrev pub IsReasonOf : Judgement → Reason → Type 0
IsReasonOf j (Call failure) = j.report.status ≡ Failed
IsReasonOf j Early = j.report.status ≡ Cut
IsReasonOf j (NoExport stranger) = (j.report.status ≡ Broken) ⊎ (j.report.status ≡ TooLong)
IsReasonOf j Old = (j.report.status ≡ Whole) × (j.report.entries ≢ j.report.frames)
IsReasonOf j (Frames count) = (j.report.status ≡ Whole) × (j.report.entries ≢ j.report.frames) × (count ≡ j.report.frames - j.report.entries)
IsReasonOf j (Votes votes good) = (j.report.status ≡ Whole) × (j.report.entries ≡ j.report.frames) × (votes ≡ j.votes) × (good ≡ j.good) × (good ≢ votes)
IsReasonOf j Steps = (j.report.status ≡ Whole) × (j.report.entries ≡ j.report.frames) × (j.good ≡ j.votes)

-- there is none just where the log is sound
abbrev pub IsWhy : Judgement → Option Reason → Type 0
IsWhy j None = j.sound ≡ true
IsWhy j (Some reason) = (j.sound ≡ false) × IsReasonOf j reason

-- ---- what to know of a sound log

abbrev pub note : Judgement → Option Note
note j =
    if j.sound then (if j.report.frames == 0 then Some Empty else if j.has_voted then None else Some NoVote)
    else None

abbrev pub note_text : Note → List ℕ
note_text Empty = codes "sound, and empty"
note_text NoVote = codes "sound, with no vote of its own"

-- ---- the words

abbrev pub time_text : ℕ → List ℕ
time_text seconds = codes "timed out after " ++ decimal seconds ++ codes " s"

abbrev pub failure_text : Failure → List ℕ
failure_text NoSuchFile = codes "no such file"
failure_text Folder = codes "a folder"
failure_text Unreadable = codes "can't be read"
failure_text NoSuchHost = codes "no such host"
failure_text Refused = codes "refused"
failure_text Reset = codes "reset"
failure_text (TimedOut seconds) = time_text seconds

abbrev pub stranger_text : Stranger → List ℕ
stranger_text Unknown = codes "not an export"
stranger_text Journal = codes "not an export (a journal: see export)"
stranger_text Committee = codes "not an export (a committee)"
stranger_text Verdict = codes "not an export (a verdict)"
stranger_text Seed = codes "not an export (a seed)"

abbrev pub frames_text : ℕ → List ℕ
frames_text count = decimal count ++ codes " frames are no entries"

abbrev pub votes_text : ℕ → ℕ → List ℕ
votes_text votes good = decimal votes ++ (codes " votes, " ++ (decimal good ++ codes " good: another committee, or another R?"))

abbrev pub reason_text : Reason → List ℕ
reason_text (Call failure) = failure_text failure
reason_text Early = codes "ends early"
reason_text (NoExport stranger) = stranger_text stranger
reason_text Old = codes "the old form: see migrate"
reason_text (Frames count) = frames_text count
reason_text (Votes votes good) = votes_text votes good
reason_text Steps = codes "an entry is no legal step"
