use Rattle.std.proofs.Common.{sym, ◌∙◌}
use Rattle.blocks.proofs.CommitteeLaws.{counts_fit}
use Rattle.blocks.proofs.committee.judge.Goals as goal

pub bad_key-requires-clause-counted : goal.bad_key-requires-clause-counted
bad_key-requires-clause-counted c = counts_fit c.args.bytes.now c.u16_at-n.result (sym c.bad_count.ensures ∙ c.in_default.is)

pub first_twin-requires-clause-counted : goal.first_twin-requires-clause-counted
first_twin-requires-clause-counted c = counts_fit c.args.bytes.now c.u16_at-n.result (sym c.bad_count.ensures ∙ c.in_default.is)
