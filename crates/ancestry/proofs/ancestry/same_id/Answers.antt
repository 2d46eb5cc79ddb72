use Rattle.ancestry.proofs.Ids.{headers_decide}
use Rattle.ancestry.proofs.ancestry.same_id.Goals as goal

pub returns : goal.returns
returns c = headers_decide c.args.a.now c.args.b.now c.eq.result c.id.result.now c.id-2.result.now c.id.ensures c.id-2.ensures c.eq.ensures
