use Rattle.std.proofs.Common.{◌∙◌, ℕ, List, ap, arith}
use Rattle.std.specs.Prelude.{map}
use Rattle.std.proofs.lemmas.List.{take_all}
use Rattle.serde_json.specs.Data.{Data, array}
use Rattle.serde_json.specs.View.{items_of, view}
use Rattle.audit_run.specs.Data.{culprit_data}
use Rattle.audit_run.proofs.Adding.{one_more}
use Rattle.audit_run.proofs.lists.culprits_value.Goals as goal

pub loop-verdict-preserved : goal.loop-verdict-preserved
loop-verdict-preserved c =
    let f = culprit_data c.args.folder.now in
    one_more view f c.loop-verdict.list.items c.push.new.list.items c.in_ok-culprit_value.field-0 c.args.verdicts.now c.loop-verdict.verdict-index c.verdict-item.result
    c.loop-verdict-test.true c.loop-verdict.invariant c.in_ok-push.ensures.ok (c.in_ok-culprit_value.ensures ∙ ap f c.verdict-item.is)

pub returns : goal.returns
returns c =
    let f = culprit_data c.args.folder.now in
    c.from.ensures
    ∙ ap (λ (ds : List Data). array (items_of ds))
    (c.loop-verdict.invariant ∙ ap (λ (vs : List (List ℕ)). map f vs) (take_all c.loop-verdict.verdict-index c.args.verdicts.now (omega (arith, c.loop-verdict-test.false))))
