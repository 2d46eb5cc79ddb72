use Rattle.std.proofs.Common.{◌≤◌, ◌∙◌, ap, sym, subst, arith}
use Rattle.std.specs.Prelude.{Some}
use Rattle.std.proofs.lemmas.Result.{IfOk-weaker}
use Rattle.serde_json.specs.Data.{Data, depth}
use Rattle.serde_json.specs.Read.{max_depth}
use Rattle.serde_json.specs.Written.{compact_text, has_float}
use Rattle.audit_run.proofs.Plain.{plain_report}
use Rattle.audit_run.proofs.report.compact_report.Goals as goal

pub returns-clause-text : goal.returns-clause-text
returns-clause-text c =
    let plain = plain_report c.args.told.now c.args.sources.now c.args.report.now in
    let same = c.in_ok-value.ensures in
    IfOk-weaker c.to_string.result _ _ (λ s is. is (ap has_float same ∙ plain.float) ∙ ap compact_text same) c.to_string.ensures.text

pub returns-clause-reads_back : goal.returns-clause-reads_back
returns-clause-reads_back c =
    let plain = plain_report c.args.told.now c.args.sources.now c.args.report.now in
    let same = c.in_ok-value.ensures in
    IfOk-weaker c.to_string.result _ _
    (λ s is. is (subst (λ (d : Data). depth d ≤ max_depth) (sym same) (omega (arith, plain.flat))) ∙ ap (λ (d : Data). Some d) same) c.to_string.ensures.reads_back
