-- What is sent of a journal.
use Rattle.std.specs.Prelude.{ℕ, ◌++◌, List, codes, if◌then◌else◌}
use Rattle.std.specs.List.{flat_map}
use Rattle.log_format.specs.Exports.{frame_text, stream_text}
use Rattle.log_export.specs.Splits.{JournalReading}

-- a stream of these frames that lacks its end mark
abbrev pub cut_text : List (List ℕ) → List ℕ
cut_text frames = codes "HSL1" ++ flat_map frame_text frames

-- the whole stream of a journal that is whole, and of one that is damaged the stream without its end mark
abbrev pub sent_text : JournalReading → List ℕ
sent_text r = if r.whole then stream_text r.payloads else cut_text r.payloads
