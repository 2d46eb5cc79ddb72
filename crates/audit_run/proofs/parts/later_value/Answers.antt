use Rattle.std.proofs.lemmas.Result.{IfOk-weaker}
use Rattle.serde_json.specs.View.{view}
use Rattle.audit_run.proofs.Votes.{later_id, same_block}
use Rattle.audit_run.proofs.parts.later_value.Goals as goal

pub returns : goal.returns
returns c =
    IfOk-weaker c.block_value.result _ _
    (λ v is. same_block (view v) _ _ _ _ is c.later_view.ensures (later_id c.args.verdict.now _ c.parts-said.ensures)) c.block_value.ensures
