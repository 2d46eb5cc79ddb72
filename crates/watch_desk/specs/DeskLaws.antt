-- Laws on what a desk knows and tells.
use Rattle.std.specs.Prelude.{◌≡◌, ◌↔◌, ◌⊎◌, ℕ, List, [], Some, IsSome}
use Rattle.std.specs.List.{All, Contains}
use Rattle.audit_evidence.specs.Evidence.{Evidence}
use Rattle.verdict_format.specs.Proofs.{IsProof}
use Rattle.verdict_format.specs.Verdicts.{replica_in}
use Rattle.audit_commits.specs.Culprits.{IsCulprit}
use Rattle.culprit_search.specs.Reports.{IsAudit, Report}
use Rattle.culprit_search.specs.declared.report.Commit.{Commit}
use Rattle.culprit_search.specs.declared.report.Conflict.{Conflict}
use Rattle.watch_desk.specs.Hearing.{IsHeard, Told}
use Rattle.watch_desk.specs.News.{conflict_told, new_commits}
use Rattle.watch_desk.specs.Verdicts.{unnamed}
use Rattle.watch_desk.specs.declared.news.News.{News}

-- some known verdict is on the replica
abbrev pub IsNamedIn : List (List ℕ) → ℕ → Type 0
IsNamedIn verdicts r = (bytes : List ℕ) × Contains verdicts bytes × (replica_in bytes ≡ r)

abbrev pub ADeskNamesJustTheCulprits : Type 0
ADeskNamesJustTheCulprits =
    (e : Evidence) (r : Report) (old new : Told) (heard : List News) (q : ℕ)
    → IsAudit e r → IsHeard e r old new heard → IsNamedIn new.verdicts q ↔ (IsNamedIn old.verdicts q ⊎ IsCulprit e q)

-- of two rounds, one after the other
abbrev pub ACommitIsNotToldTwice : Type 0
ACommitIsNotToldTwice =
    (e f : Evidence) (r s : Report) (old mid new : Told) (first second : List News) (c : Commit)
    → IsHeard e r old mid first → IsHeard f s mid new second
    → Contains (new_commits old.commits r.commits) c → Contains (new_commits mid.commits s.commits) c → ⊥

abbrev pub ACulpritIsNotToldTwice : Type 0
ACulpritIsNotToldTwice =
    (e f : Evidence) (r s : Report) (old mid new : Told) (first second : List News) (v w : List ℕ)
    → IsHeard e r old mid first → IsHeard f s mid new second
    → Contains (unnamed old.verdicts r.verdicts) v → Contains (unnamed mid.verdicts s.verdicts) w → replica_in v ≡ replica_in w → ⊥

abbrev pub AConflictIsNotToldTwice : Type 0
AConflictIsNotToldTwice =
    (e f : Evidence) (r s : Report) (old mid new : Told) (first second : List News) (c : Conflict)
    → IsHeard e r old mid first → IsHeard f s mid new second → r.conflict ≡ Some c → s.conflict ≡ Some c
    → conflict_told mid.conflict s.conflict ≡ []

abbrev pub AHandoverIsNotToldTwice : Type 0
AHandoverIsNotToldTwice =
    (e f : Evidence) (r s : Report) (old mid new : Told) (first second : List News)
    → (h : IsHeard e r old mid first) (k : IsHeard f s mid new second) → IsSome h.handover → IsSome k.handover → ⊥

abbrev pub WhatIsServedIsAProof : Type 0
WhatIsServedIsAProof =
    (e : Evidence) (r : Report) (old new : Told) (heard : List News)
    → IsHeard e r old new heard → All (IsProof e.committee) r.verdicts → All (IsProof e.committee) old.verdicts
    → All (IsProof e.committee) new.verdicts
