-- What is kept of the logs of one reading.
use Rattle.std.proofs.Common.{◌∷◌, ℕ, List, [], None, Option, Some}
use Rattle.std.specs.Prelude.{map}
use Rattle.log_format.specs.declared.status.Status.{Status}
use Rattle.audit_evidence.specs.Logs.{ReceivedLog}
use Rattle.audit_run.specs.KeptLaws.{WhatIsKeptIsTheLog}
use Rattle.audit_run.specs.Written.{IsWritten, Writing}
use Rattle.parallel_verify.specs.Readings.{AreTold}
use Rattle.parallel_verify.specs.declared.source.Observed.{Observed}
use Rattle.program_tool.specs.Keeping.{AreKept, IsKeptFrom, IsLogKept}

log_kept : WhatIsKeptIsTheLog → (s t : Option Writing) (l : ReceivedLog) → IsKeptFrom s t l.frames (Some l.status) → IsLogKept s l t
log_kept law None None l told = tt
log_kept law None (Some t) l told = absurd told
log_kept law (Some s) None l told = absurd told
log_kept law (Some s) (Some t) l told = λ before began none sound. law before s t l began none told sound

pub logs_kept : {C O : Type 0} (writer : O → Option Writing) → WhatIsKeptIsTheLog → (sources : List (Observed C O)) (logs : List ReceivedLog) (after : List O)
    → AreTold (λ s t. IsKeptFrom (writer s) (writer t)) sources logs after → AreKept (map (λ s. writer s.observer) sources) (map writer after) logs
logs_kept writer law [] [] [] told = tt
logs_kept writer law [] [] (k ∷ ks) told = absurd told
logs_kept writer law [] (l ∷ ls) ks told = absurd told
logs_kept writer law (s ∷ ss) [] ks told = absurd told
logs_kept writer law (s ∷ ss) (l ∷ ls) [] told = absurd told
logs_kept writer law (s ∷ ss) (l ∷ ls) (k ∷ ks) told = (log_kept law (writer s.observer) (writer k) l told.0, logs_kept writer law ss ls ks told.1)

-- one step of a writer, if there is one
pub kept_next : (s : Option Writing) (w w' : Writing) (frames frames' : List (List ℕ)) (end : Option Status) → ((r : Writing) → IsWritten r w frames None → IsWritten r w' frames' end) → IsKeptFrom s (Some w) frames None → IsKeptFrom s (Some w') frames' end
kept_next None w w' frames frames' end step told = absurd told
kept_next (Some r) w w' frames frames' end step told = step r told

-- .. and if there is none
pub none_next : (s : Option Writing) (frames frames' : List (List ℕ)) (end : Option Status) → IsKeptFrom s None frames None → IsKeptFrom s None frames' end
none_next None frames frames' end told = tt
none_next (Some r) frames frames' end told = absurd told
