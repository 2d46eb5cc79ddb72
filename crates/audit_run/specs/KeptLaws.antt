-- What a later audit reads of a log that was kept.
use Rattle.std.specs.Prelude.{◌≡◌, ℕ, List, Option, Some, codes, false}
use Rattle.base_streams.specs.Streams.{Wrote}
use Rattle.log_format.specs.Readings.{IsReading}
use Rattle.audit_evidence.specs.Logs.{ReceivedLog}
use Rattle.audit_run.specs.Kept.{HasPayloads, kept_status, kept_text}
use Rattle.audit_run.specs.Written.{IsWritten, Writing}

-- the same frames, and Whole just where it was Whole
abbrev pub AKeptLogReadsBack : Type 0
AKeptLogReadsBack = (l : ReceivedLog) → HasPayloads l → IsReading 0 (kept_text l) false l.frames (kept_status l.status)

-- what a writer that began a stream was told of a log is what is kept of it, unless it gave up
abbrev pub WhatIsKeptIsTheLog : Type 0
WhatIsKeptIsTheLog =
    (before : Option (List ℕ)) (s t : Writing) (l : ReceivedLog) → Wrote before s.given (codes "HSL1") → s.count ≡ 0
    → IsWritten s t l.frames (Some l.status) → t.is_broken ≡ false → Wrote before t.given (kept_text l)
