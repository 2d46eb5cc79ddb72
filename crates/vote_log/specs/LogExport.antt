-- What a log sends out, and when it refuses to. docs/FORMATS.md, 'Export'.
use Rattle.std.specs.Prelude.{ℕ, ◌≡◌, ◌<◌, ◌-◌, min, List, [], take, drop, length, slice_index_or, Result, Ok, Err, true, false}
use Rattle.std.specs.List.{flat_map}
use Rattle.log_format.specs.Exports.{export_text, frame_text}
use Rattle.base_streams.specs.Counting.{HasFailed}
use Rattle.log_format.specs.EntryText.{Entry}
use Rattle.vote_log.specs.Logs.{LogState, texts_of}
use Rattle.vote_log.specs.declared.export_error.ExportError.{ExportError}
use Rattle.vote_log.specs.declared.export_error.ExportError.TheVariants.{Memory, Device, Sink, Stopped}

-- the stream of the entries from the first on, so many at most
abbrev pub export_of : List Entry → ℕ → ℕ → List ℕ
export_of entries first most = export_text (texts_of entries) first most

-- how many frames it has, of a log of so many entries
abbrev pub frame_count : ℕ → ℕ → ℕ → ℕ
frame_count count first most = min most (count - first)

-- the number that docs/REFUSALS.md gives a refusal
abbrev pub export_error_number : ExportError → ℕ
export_error_number Memory = 1
export_error_number Device = 2
export_error_number Sink = 3
export_error_number Stopped = 4

-- `export`: memory is asked for where the log runs, and the disk only for frames
abbrev pub IsExportRefusal : {D : Type 0} → LogState D → ℕ → ℕ → ExportError → Type 0
IsExportRefusal log first most Memory = log.stopped ≡ false
IsExportRefusal log first most Stopped = log.stopped ≡ true
IsExportRefusal log first most Device = (log.stopped ≡ false) × (0 < frame_count (length log.steps) first most)
IsExportRefusal log first most Sink = log.stopped ≡ false

-- of the disk's and the sink's counts of failures, before and after: each stands still, but that of the one
-- that is blamed
abbrev pub Blames : {T : Type 0} → (disk disk_after sink sink_after : ℕ) → Result T ExportError → Type 0
Blames disk disk_after sink sink_after (Ok x) = (disk_after ≡ disk) × (sink_after ≡ sink)
Blames disk disk_after sink sink_after (Err Memory) = (disk_after ≡ disk) × (sink_after ≡ sink)
Blames disk disk_after sink sink_after (Err Device) = HasFailed disk disk_after × (sink_after ≡ sink)
Blames disk disk_after sink sink_after (Err Sink) = (disk_after ≡ disk) × HasFailed sink sink_after
Blames disk disk_after sink sink_after (Err Stopped) = (disk_after ≡ disk) × (sink_after ≡ sink)

-- ---- parts of this call

-- the frame of payload k
abbrev pub frame_at : List (List ℕ) → ℕ → List ℕ
frame_at payloads k = frame_text (slice_index_or payloads k [])

-- the frames of the payloads from one to before another
abbrev pub frames_from : List (List ℕ) → ℕ → ℕ → List ℕ
frames_from payloads from until = flat_map frame_text (take (until - from) (drop from payloads))
