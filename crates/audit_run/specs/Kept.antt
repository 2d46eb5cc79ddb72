-- What is kept of a log that was read. docs/FORMATS.md, "Kept logs".
use Rattle.std.specs.Prelude.{◌≤◌, ℕ, List, length}
use Rattle.std.specs.List.{All}
use Rattle.base_wire.specs.Payloads.{IsPayload}
use Rattle.base_wire.specs.declared.limits.TheConstants.{MOST_ENTRIES}
use Rattle.log_format.specs.Exports.{export_text}
use Rattle.log_format.specs.declared.status.Status.{Status}
use Rattle.log_format.specs.declared.status.Status.TheVariants.{Whole, Cut, Broken, TooLong, Failed}
use Rattle.log_export.specs.Sent.{cut_text}
use Rattle.audit_evidence.specs.Logs.{ReceivedLog}

-- its frames are as many as a log may have, each as long as a frame may be
pub record HasPayloads (l : ReceivedLog) : Type 0 where
  pub sizes : All IsPayload l.frames
  pub few : length l.frames ≤ MOST_ENTRIES

-- of a stream that ended as Whole the export of its frames, and of another the same frames with no end mark
abbrev pub text_of : List (List ℕ) → Status → List ℕ
text_of frames Whole = export_text frames 0 (length frames)
text_of frames Cut = cut_text frames
text_of frames Broken = cut_text frames
text_of frames TooLong = cut_text frames
text_of frames Failed = cut_text frames

unfoldable pub kept_text : ReceivedLog → List ℕ
kept_text l = text_of l.frames l.status

-- how a file that was kept reads
abbrev pub kept_status : Status → Status
kept_status Whole = Whole
kept_status Cut = Cut
kept_status Broken = Cut
kept_status TooLong = Cut
kept_status Failed = Cut
