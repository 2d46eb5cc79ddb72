use Rattle.signer_service.proofs.Pieces.{by_two}
use Rattle.signer_service.proofs.metrics.put_committees.Goals as goal

pub returns-clause-items : goal.returns-clause-items
returns-clause-items c = by_two _ _ _ _ _ c.put_field.ensures.items c.put_field-2.ensures.items
