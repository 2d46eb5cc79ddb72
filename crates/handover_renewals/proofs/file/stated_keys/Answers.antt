use Rattle.std.proofs.Common.{ap, drop, ◌∙◌}
use Rattle.std.proofs.lemmas.List.{take_rest}
use Rattle.handover_renewals.proofs.file.stated_keys.Goals as goal

pub returns : goal.returns
returns c = take_rest c.bytes.result.now 39 ∙ ap (drop 39) (c.bytes.ensures.text ∙ c.statement.ensures)
