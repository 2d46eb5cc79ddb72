-- What is kept of logs that are read.
use Rattle.std.specs.Prelude.{◌≡◌, ◌∷◌, [], ℕ, List, None, Option, Some, codes, false, ⊤}
use Rattle.base_streams.specs.Streams.{Wrote}
use Rattle.log_format.specs.declared.status.Status.{Status}
use Rattle.audit_evidence.specs.Logs.{ReceivedLog}
use Rattle.audit_run.specs.Kept.{kept_text}
use Rattle.audit_run.specs.Written.{IsWritten, Writing, nothing_written}

-- the writer, if there is one, was told of these frames, and how they end
abbrev pub IsKeptFrom : Option Writing → Option Writing → List (List ℕ) → Option Status → Type 0
IsKeptFrom None None frames end = ⊤
IsKeptFrom (Some s) (Some t) frames end = IsWritten s t frames end
IsKeptFrom _ _ frames end = ⊥

-- .. and at first of none
pub none_kept : (w : Option Writing) → IsKeptFrom w w [] None
none_kept None = tt
none_kept (Some s) = nothing_written s

-- what a writer that began a stream has written to it is what is kept of the log, unless it gave up
abbrev pub IsLogKept : Option Writing → ReceivedLog → Option Writing → Type 0
IsLogKept None l None = ⊤
IsLogKept (Some s) l (Some t) =
    (before : Option (List ℕ)) → Wrote before s.given (codes "HSL1") → s.count ≡ 0 → t.is_broken ≡ false → Wrote before t.given (kept_text l)
IsLogKept _ l _ = ⊥

-- .. of each log, in their order
abbrev pub AreKept : List (Option Writing) → List (Option Writing) → List ReceivedLog → Type 0
AreKept [] [] [] = ⊤
AreKept (s ∷ ss) (t ∷ ts) (l ∷ ls) = IsLogKept s l t × AreKept ss ts ls
AreKept _ _ _ = ⊥
