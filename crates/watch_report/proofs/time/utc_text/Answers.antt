use Rattle.std.proofs.Common.{◌∙◌, ap}
use Rattle.std.proofs.lemmas.Result.{IfOk-weaker}
use Rattle.watch_report.specs.LineTimes.{utc_of}
use Rattle.watch_report.proofs.time.utc_text.Goals as goal

pub returns : goal.returns
returns c below = IfOk-weaker c.in_order.result _ _ (λ text is. (c.date_of.result, c.date_of.ensures below, is ∙ ap utc_of c.to_bytes.ensures)) c.in_order.ensures
