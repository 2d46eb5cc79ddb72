-- What the report and the search say together.
use Rattle.std.proofs.Common.{◌≡◌, true, false, Option, Some, None, sym}
use Rattle.std.specs.Prelude.{is_some}
use Rattle.std.proofs.lemmas.Bool.{false≢true}
use Rattle.blocks.specs.Weights.{committee_of}
use Rattle.audit_evidence.specs.Evidence.{Evidence}
use Rattle.audit_commits.specs.Commits.{HasNoConflict}
use Rattle.culprit_search.specs.Reports.{IsConflictOf}
use Rattle.culprit_search.specs.declared.report.Conflict.{Conflict}

-- two commits conflict just where the report names them
pub conflict_is : (e : Evidence) (o : Option Conflict) → IsConflictOf e o → is_some o ≡ true → HasNoConflict (committee_of e.committee) e → ⊥
conflict_is e None is some agree = false≢true some
conflict_is e (Some k) is some agree =
    let c = is.are_first.conflicting in agree is.first is.second c.first c.second c.conflict

pub agree_is : (e : Evidence) (o : Option Conflict) → IsConflictOf e o → is_some o ≡ false → HasNoConflict (committee_of e.committee) e
agree_is e None is none = is
agree_is e (Some k) is none = absurd (false≢true (sym none))
