-- A report has no float, and nests no deeper than five.
use Rattle.std.proofs.Common.{◌≡◌, ℕ, ◌≤◌, List, [], ◌∷◌, refl, arith}
use Rattle.std.specs.Prelude.{Option, None, Some, false, map}
use Rattle.serde_json.specs.Data.{Data, depth, items_depth}
use Rattle.serde_json.specs.View.{items_of}
use Rattle.serde_json.specs.Written.{has_float, items_have_float}
use Rattle.audit_run.specs.declared.reason.Reason.{Reason}
use Rattle.culprit_search.specs.Reports.{Report}
use Rattle.culprit_search.specs.declared.report.Commit.{Commit}
use Rattle.culprit_search.specs.declared.report.Conflict.{Conflict}
use Rattle.audit_run.specs.Data.{commit_data, conflict_data, culprit_data, reason_data, report_data, source_data}
use Rattle.audit_run.specs.declared.told.AuditTold.{AuditTold}
use Rattle.audit_run.specs.declared.told.SourceTold.{SourceTold}

pub record IsPlain (n : ℕ) (d : Data) : Type 0 where
  pub float : has_float d ≡ false
  pub flat : depth d ≤ n

record ArePlain {X : Type 0} (n : ℕ) (f : X → Data) (xs : List X) : Type 0 where
  float : items_have_float (items_of (map f xs)) ≡ false
  flat : items_depth (items_of (map f xs)) ≤ n

all_plain : {X : Type 0} (n : ℕ) (f : X → Data) → ((x : X) → IsPlain n (f x)) → (xs : List X) → ArePlain n f xs
all_plain n f each [] = record { float = refl; flat = omega arith }
all_plain n f each (x ∷ xs) =
    let one = each x in
    let more = all_plain n f each xs in
    record { float = rw one.float more.float; flat = omega (arith, one.flat, more.flat) }

plain_commit : (c : Commit) → IsPlain 3 (commit_data c)
plain_commit c = record { float = refl; flat = omega arith }

plain_conflict : (c : Option Conflict) → IsPlain 3 (conflict_data c)
plain_conflict None = record { float = refl; flat = omega arith }
plain_conflict (Some c) = record { float = refl; flat = omega arith }

plain_reason : (r : Option Reason) → IsPlain 0 (reason_data r)
plain_reason None = record { float = refl; flat = omega arith }
plain_reason (Some r) = record { float = refl; flat = omega arith }

plain_source : (s : SourceTold) → IsPlain 3 (source_data s)
plain_source s =
    let why = plain_reason s.reason in
    record { float = rw why.float refl; flat = omega (arith, why.flat) }

plain_culprit : (folder : List ℕ) (verdict : List ℕ) → IsPlain 3 (culprit_data folder verdict)
plain_culprit folder verdict = record { float = refl; flat = omega arith }

pub plain_report : (t : AuditTold) (sources : List SourceTold) (r : Report) → IsPlain 5 (report_data t sources r)
plain_report t sources r =
    let commits = all_plain 3 commit_data plain_commit r.commits in
    let conflict = plain_conflict r.conflict in
    let culprits = all_plain 3 (culprit_data t.folder.now) (plain_culprit t.folder.now) r.verdicts in
    let told = all_plain 3 source_data plain_source sources in
    record {
      float = rw (commits.float, conflict.float, culprits.float, told.float) refl;
      flat = omega (arith, commits.flat, conflict.flat, culprits.flat, told.flat);
    }
