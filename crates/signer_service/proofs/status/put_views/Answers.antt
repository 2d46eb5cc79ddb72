use Rattle.signer_service.proofs.Pieces.{by_three}
use Rattle.signer_service.proofs.status.put_views.Goals as goal

pub returns-clause-items : goal.returns-clause-items
returns-clause-items c = by_three _ _ _ _ _ _ _ c.put_field.ensures.items c.put_field-2.ensures.items c.put.ensures.items
