use Rattle.replica_core.proofs.Marked.{by_id}
use Rattle.replica_core.proofs.replica.Core.first_in_chain.Goals as goal

pub returns : goal.returns
returns c = by_id c.args.self.now c.args.mark.now c.args.id.now c.in_ok-tip.field-0.now c.first_from.result c.find.ensures.tree c.in_ok-tip.ensures.found c.first_from.ensures
