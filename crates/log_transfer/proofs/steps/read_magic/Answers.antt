use Rattle.std.proofs.Common.{sym, ◌∙◌}
use Rattle.std.proofs.lemmas.Bool.{false≢true}
use Rattle.log_transfer.proofs.Places.{magic_other}
use Rattle.log_transfer.proofs.steps.read_magic.Goals as goal

pub returns-else-is_magic-clause-magic : goal.returns-else-is_magic-clause-magic
returns-else-is_magic-clause-magic g c =
    let left = g.C.Connector.left in
    let some = g.met.C.Connector.some c.fill.new.connector in
    magic_other (left c.args.connector.now) (left c.fill.new.connector) c.fill.new.buffer some.0 some.1 c.in-All.ensures.filled c.in-All.ensures.length (λ e. false≢true (sym c.if-is_magic.false ∙ c.is_magic.ensures.1 e))
