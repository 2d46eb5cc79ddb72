use Rattle.signer_service.proofs.Pieces.{by_three}
use Rattle.signer_service.proofs.metrics.put_going.Goals as goal

pub returns-clause-items : goal.returns-clause-items
returns-clause-items c = by_three _ _ _ _ _ _ _ c.put_next_of.ensures.items c.put_reserve_of.ensures.items c.put_committees_of.ensures.items
