use Rattle.std.proofs.Common.{sym, ◌∙◌, arith}
use Rattle.log_transfer.proofs.Decisions.{decides_whole, decides_other}
use Rattle.log_transfer.proofs.front.mark_of.Goals as goal

pub returns-then-u32_at-count : goal.returns-then-u32_at-count
returns-then-u32_at-count c = decides_whole c.args.count c.args._room c.args.rest.now (omega arith) c.requires.none (sym c.u32_at.ensures ∙ c.if-u32_at-count.true)

pub returns-else-u32_at-count : goal.returns-else-u32_at-count
returns-else-u32_at-count c = decides_other c.args.count c.args._room c.args.rest.now (omega arith) c.requires.none (λ e. c.if-u32_at-count.false (c.u32_at.ensures ∙ e))
